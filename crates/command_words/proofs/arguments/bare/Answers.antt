use Rattle.std.proofs.Common.{◌∙◌, ap, true}
use Rattle.clap.specs.Simple.{Shape, app_of_fields, on_top}
use Rattle.clap.specs.declared.builder.command.Command.{Command}
use Rattle.clap.specs.declared.builder.command.Command.TheOpen.{Command-F}
use Rattle.command_words.proofs.arguments.bare.Goals as goal

pub returns : goal.returns
returns c =
    ap app_of_fields c.disable_help_flag.ensures
    ∙ ap (λ (fields : Command-F Command). app_of_fields (record fields { disable_help_flag = true })) c.no_binary_name.ensures
    ∙ ap (on_top (λ (s : Shape). record s { no_binary_name = true; disable_help_flag = true })) c.new.ensures.app
