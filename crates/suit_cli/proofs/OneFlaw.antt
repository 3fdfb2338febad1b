-- A description has one first flaw, and is told by one line.
use Rattle.std.proofs.Common.{◌≡◌, ℕ, List, Some, None, Ok, refl, sym, subst, ◌∙◌}
use Rattle.std.proofs.lemmas.Option.{same_Some}
use Rattle.det_cbor.specs.ResultLaws.{same_ok}
use Rattle.serde_json.specs.Data.{Data}
use Rattle.flash_layout.specs.declared.frame.Frame.{Frame}
use Rattle.flash_layout.specs.declared.layout.Entry.{Entry}
use Rattle.flash_layout.specs.declared.layout_fault.LayoutFault.{LayoutFault}
use Rattle.flash_layout.specs.declared.layout_fault.LayoutFault.TheVariants as faults
use Rattle.flash_layout.specs.Devices.{described_layout}
use Rattle.flash_layout.specs.LayoutFaults.{RefusesLayout}
use Rattle.flash_layout.proofs.OneLayout.{never_both, once}
use Rattle.suit_cli.specs.declared.reply.Reply.{Reply}
use Rattle.suit_cli.specs.declared.reply.Outcome.TheVariants as outcomes
use Rattle.suit_cli.specs.Devices.{IsDevice, IsNoDevice, IsNoJson, IsNoLayout, IsFaultLine, TellsLayout}
use Rattle.suit_cli.proofs.OneCause.{HasOne}
use Rattle.suit_cli.proofs.OneStage.{one_reply}

device_not_both : (size : ℕ) (bytes : List ℕ) (x : List Entry × Frame) (r : Reply) → IsDevice size bytes x.0 x.1 → IsNoDevice size bytes r → ⊥
device_not_both size bytes x r device (IsNoJson none says) =
    let never : None ≡ Some device.value = sym (none device.utf8) ∙ device.reads in absurd cc
device_not_both size bytes x r device (IsNoLayout value fault utf8 reads refuses says) =
    let same : value ≡ device.value = same_Some value device.value (sym reads ∙ device.reads) in
    never_both size device.value x.0 x.1 fault device.describes (subst (λ (v : Data). RefusesLayout size v fault) same refuses)

one_line : (fault : LayoutFault) (s t : List ℕ) → IsFaultLine fault s → IsFaultLine fault t → t ≡ s
one_line (faults.BadField pointer) s t is is' = is' ∙ sym is
one_line (faults.BadHex pointer) s t is is' = is' ∙ sym is
one_line (faults.BadUuid pointer) s t is is' = is' ∙ sym is
one_line (faults.TooMany n) s t is is' = is' ∙ sym is
one_line (faults.TwoAlike i j) s t is is' = is' ∙ sym is
one_line (faults.Overlap i j) s t is is' = is' ∙ sym is
one_line (faults.Outside i) s t is is' = is' ∙ sym is
one_line faults.BaseOutside s t is is' = is' ∙ sym is
one_line (faults.BaseOverlap i) s t is is' = is' ∙ sym is
one_line faults.NoMemory s t is is' = absurd is

pub one_telling : (fault : LayoutFault) (r q : Reply) → TellsLayout fault r → TellsLayout fault q → q ≡ r
one_telling fault r q first second =
    one_reply r q outcomes.Refused r.text (record { outcome_is = first.outcome_is; text_is = refl })
    (record { outcome_is = second.outcome_is; text_is = one_line fault r.text q.text first.line second.line })

one_no_device : (size : ℕ) (bytes : List ℕ) (r q : Reply) → IsNoDevice size bytes r → IsNoDevice size bytes q → q ≡ r
one_no_device size bytes r q (IsNoJson none says) (IsNoJson none' says') = one_reply r q _ _ says says'
one_no_device size bytes r q (IsNoJson none says) (IsNoLayout value fault utf8 reads refuses tells) =
    let never : None ≡ Some value = sym (none utf8) ∙ reads in absurd cc
one_no_device size bytes r q (IsNoLayout value fault utf8 reads refuses tells) (IsNoJson none says) =
    let never : None ≡ Some value = sym (none utf8) ∙ reads in absurd cc
one_no_device size bytes r q (IsNoLayout value f utf8 reads refuses tells) (IsNoLayout value' g utf8' reads' refuses' tells') =
    let same : value' ≡ value = same_Some value' value (sym reads' ∙ reads) in
    let alike : g ≡ f = once size value g f (subst (λ (v : Data). RefusesLayout size v g) same refuses') refuses in
    one_telling f r q tells (subst (λ (x : LayoutFault). TellsLayout x q) alike tells')

same_layout : (size : ℕ) (bytes : List ℕ) (x y : List Entry × Frame) → IsDevice size bytes x.0 x.1 → IsDevice size bytes y.0 y.1 → y ≡ x
same_layout size bytes x y first second =
    let same : second.value ≡ first.value = same_Some second.value first.value (sym second.reads ∙ first.reads) in
    let here : described_layout first.value ≡ Ok (y.0, y.1) = subst (λ (v : Data). described_layout v ≡ Ok (y.0, y.1)) same second.describes.reads in
    same_ok y x (sym here ∙ first.describes.reads)

pub one_device : (size : ℕ) (bytes : List ℕ) → HasOne (λ (x : List Entry × Frame). IsDevice size bytes x.0 x.1) (IsNoDevice size bytes)
one_device size bytes = record { value = same_layout size bytes; refusal = one_no_device size bytes; never = device_not_both size bytes }
