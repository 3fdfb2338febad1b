use Rattle.std.proofs.Common.{◌≡◌, refl, sym, subst, inl, inr}
use Rattle.suit_c.proofs.Answered.{ok_says}
use Rattle.suit_envelope.specs.Authentic.{IsAuthentic}
use Rattle.suit_envelope.specs.Envelopes.{EnvelopeSays}
use Rattle.suit_envelope.specs.Said.{said_by}
use Rattle.suit_c.proofs.authentic.judge.Goals as goal

pub returns-in_default-clause-every_yes : goal.returns-in_default-clause-every_yes
returns-in_default-clause-every_yes c file =
    let no = c.in_default.ensures.every_envelope file.said file.envelope in absurd cc

pub returns-in_default-authentic : goal.returns-in_default-authentic
returns-in_default-authentic c = record {
  answers = inr (inl refl);
  yes = λ e. absurd cc;
  every_yes = λ file.
      let same = ok_says said_by c.in-Ok.envelope file.said (c.in-Ok.ensures.every_envelope file.said file.envelope) in
      absurd (c.in_default-authentic.not-Yes (c.authentic.ensures.every_yes (subst (λ (s : EnvelopeSays). IsAuthentic s.wrapper s.manifest c.args.key.now) (sym same) file.authentic)));
  refused = λ e. absurd cc;
  no = λ e. record {
    said = said_by c.in-Ok.envelope;
    envelope = c.in-Ok.ensures.ok;
    not_authentic = λ a. absurd (c.in_default-authentic.not-Yes (c.authentic.ensures.every_yes a));
  };
}
