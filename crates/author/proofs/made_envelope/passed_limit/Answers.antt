use Rattle.std.proofs.Common.{refl}
use Rattle.author.specs.Held.{value_of}
use Rattle.author.proofs.TooLongFacts.{first_passed, second_passed}
use Rattle.author.proofs.made_envelope.passed_limit.Goals as goal

pub returns-then-trimmed-gt-MAX_TRIMMED : goal.returns-then-trimmed-gt-MAX_TRIMMED
returns-then-trimmed-gt-MAX_TRIMMED c =
    first_passed (value_of c.args.description.now) c.args.files.now c.args.key.now c.args.description.now.accepted c.args.severed c.in_ok-bare.bare c.in_ok-parted.parted c.in_ok-parts.parts c.trimmed.result c.requires.severed
    c.requires.long c.in_ok-bare.ensures c.in_ok-parted.ensures.is c.in_ok-parts.ensures.is c.trimmed.ensures c.if-trimmed-gt-MAX_TRIMMED.true

pub returns : goal.returns
returns c =
    second_passed (value_of c.args.description.now) c.args.files.now c.args.key.now c.args.description.now.accepted c.args.severed c.in_ok-bare.bare c.in_ok-parted.parted c.in_ok-parts.parts c.trimmed.result c.requires.severed
    c.requires.long c.in_ok-bare.ensures c.in_ok-parted.ensures.is c.in_ok-parts.ensures.is c.trimmed.ensures (λ s. refl) c.if-trimmed-gt-MAX_TRIMMED.false
