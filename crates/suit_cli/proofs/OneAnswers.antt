-- Each reply of `run init` and `run status` has one cause.
use Rattle.std.proofs.Common.{◌≡◌, ◌++◌, ◌∙◌, ℕ, List, Some, None, refl, sym, ap, arith}
use Rattle.std.specs.Prelude.{IsTrue, codes}
use Rattle.std.proofs.lemmas.Option.{same_Some}
use Rattle.flash_layout.specs.declared.frame.Frame.{Frame}
use Rattle.flash_layout.specs.declared.key.Key.{Key}
use Rattle.flash_layout.specs.declared.layout.Entry.{Entry}
use Rattle.flash_layout.specs.declared.slot.Record.{Record}
use Rattle.flash_layout.specs.Configs.{Config, ConfigOf, Configured, Blank, Bad}
use Rattle.flash_layout.specs.Frames.{head_of}
use Rattle.suit_cli.specs.declared.reply.Reply.{Reply}
use Rattle.suit_cli.specs.declared.reply.Outcome.TheVariants as outcomes
use Rattle.suit_cli.specs.Replies.{IsReply}
use Rattle.suit_cli.specs.Outside.{Flashed, Outside}
use Rattle.suit_cli.specs.Inputs.{longest_device, IsRead, IsUnread, IsKey, IsNoKey}
use Rattle.suit_cli.specs.Devices.{IsDevice, IsNoDevice}
use Rattle.suit_cli.specs.Formatting.{IsShut, IsInUse}
use Rattle.suit_cli.specs.Installed.{Holds, HoldsNone, IsBlank, IsBad, IsInstalled, IsNothing, component_lines, record_lines}
use Rattle.suit_cli.specs.FlashLaws.{InitSays, AtGate, AtDevice, AtDescription, AtKey, AtFormat, StatusSays, AtConfig, AtRecord, AtLines}
use Rattle.suit_cli.proofs.OneCause.{Behind, Stops, Passes, HasOne, just_one}
use Rattle.suit_cli.proofs.OneFlaw.{one_device}
use Rattle.suit_cli.proofs.OneStage.{one_reply, one_file, one_key}

-- ---- `run init`

-- the stages, as the start has them
abbrev Inits : List ℕ → List ℕ → Outside → Reply → Type 0
Inits device key_name b =
    Behind (λ (u : Unit {0}). IsShut b.flash) (IsInUse b.flash) (λ u.
    Behind (IsRead longest_device device b) (IsUnread longest_device device b) (λ bytes.
    Behind (λ (x : List Entry × Frame). IsDevice b.flash.size bytes x.0 x.1) (IsNoDevice b.flash.size bytes) (λ described.
    Behind (IsKey key_name b) (IsNoKey key_name b) (λ key r. IsReply r outcomes.Done (codes "ready\n")))))

init_stages : (device key_name : List ℕ) (b : Outside) (r : Reply) → InitSays device key_name b r → Inits device key_name b r
init_stages device key_name b r (AtGate x) = Stops x
init_stages device key_name b r (AtDevice shut u) = Passes tt shut (Stops u)
init_stages device key_name b r (AtDescription bytes shut h n) = Passes tt shut (Passes bytes h (Stops n))
init_stages device key_name b r (AtKey bytes layout frame shut h l n) = Passes tt shut (Passes bytes h (Passes (layout, frame) l (Stops n)))
init_stages device key_name b r (AtFormat bytes layout frame key shut h l k says) = Passes tt shut (Passes bytes h (Passes (layout, frame) l (Passes key k says)))

one_gate : (flash : Flashed) → IsTrue flash.told → HasOne (λ (u : Unit {0}). IsShut flash) (IsInUse flash)
one_gate flash t = record {
  value = λ x y g h. refl;
  refusal = λ r q g h. one_reply r q _ _ g.says h.says;
  never = λ x q shut in_use. shut t (in_use.opened t);
}

pub one_init : (device key_name : List ℕ) (b : Outside) → IsTrue b.told → IsTrue b.flash.told → (r q : Reply) → InitSays device key_name b r → InitSays device key_name b q → q ≡ r
one_init device key_name b told t r q first second =
    just_one _ _ _ (one_gate b.flash t) (λ u shut. just_one _ _ _ (one_file longest_device device b told) (λ bytes h. just_one _ _ _ (one_device b.flash.size bytes)
    (λ described l. just_one _ _ _ (one_key key_name b told) (λ key k x y says says'. one_reply x y _ _ says says'))))
    r q (init_stages device key_name b r first) (init_stages device key_name b q second)

-- ---- the configuration

same_config : (l m : List Entry) (k n : Key) (f g : Frame) → Configured l k f ≡ Configured m n g → (l ≡ m) × (k ≡ n) × (f ≡ g)
same_config l m k n f g same = grind (arith, same)

module _ (configs : Rattle.flash_layout.specs.ConfigLaws.OneAnswer) (flash : Flashed) (t : IsTrue flash.told) where
  once : (x y : Config) → (IsTrue flash.told → ConfigOf flash.size flash.reads x) → (IsTrue flash.told → ConfigOf flash.size flash.reads y)
      → y ≡ x
  once x y first second = configs flash.size flash.reads y x (second t) (first t)

  one_holds : (c d : List Entry × Key × Frame) → Holds flash c → Holds flash d → d ≡ c
  one_holds c d first second =
      let same = same_config d.0 c.0 d.1 c.1 d.2 c.2 (once (Configured c.0 c.1 c.2) (Configured d.0 d.1 d.2) first second) in
      ap (λ (l : List Entry). (l, d.1, d.2)) same.0 ∙ ap (λ (k : Key). (c.0, k, d.2)) same.1 ∙ ap (λ (f : Frame). (c.0, c.1, f)) same.2

  one_none : (r q : Reply) → HoldsNone flash r → HoldsNone flash q → q ≡ r
  one_none r q (IsBlank x says) (IsBlank y says') = one_reply r q _ _ says says'
  one_none r q (IsBad x says) (IsBad y says') = one_reply r q _ _ says says'
  one_none r q (IsBlank x says) (IsBad y says') = let never : Bad ≡ Blank = once Blank Bad x y in absurd cc
  one_none r q (IsBad x says) (IsBlank y says') = let never : Blank ≡ Bad = once Bad Blank x y in absurd cc

  holds_not_none : (config : List Entry × Key × Frame) (r : Reply) → Holds flash config → HoldsNone flash r → ⊥
  holds_not_none config r holds (IsBlank x says) = let never : Blank ≡ Configured config.0 config.1 config.2 = once (Configured config.0 config.1 config.2) Blank holds x in absurd cc
  holds_not_none config r holds (IsBad x says) = let never : Bad ≡ Configured config.0 config.1 config.2 = once (Configured config.0 config.1 config.2) Bad holds x in absurd cc

  pub one_config : HasOne (Holds flash) (HoldsNone flash)
  one_config = record { value = one_holds; refusal = one_none; never = holds_not_none }

-- ---- `run status`

module _ (configs : Rattle.flash_layout.specs.ConfigLaws.OneAnswer) (records : Rattle.rollback_record.specs.RecordLaws.OneAnswer) (b : Outside) (t : IsTrue b.flash.told) where
  nothing_not_installed : (frame : Frame) (x : Record) (r : Reply) → IsInstalled frame b.flash x → IsNothing frame b.flash r → ⊥
  nothing_not_installed frame x r installed nothing =
      let never : None ≡ Some x = records frame (head_of frame b.flash.reads) None (Some x) (nothing.none t) (installed t) in absurd cc

  one_record : (frame : Frame) → HasOne (IsInstalled frame b.flash) (IsNothing frame b.flash)
  one_record frame = record {
    value = λ x y g h. same_Some y x (records frame (head_of frame b.flash.reads) (Some y) (Some x) (h t) (g t));
    refusal = λ r q g h. one_reply r q _ _ g.says h.says;
    never = nothing_not_installed frame;
  }

  abbrev AreLines : List Entry × Key × Frame → Record → List ℕ → Type 0
  AreLines config installed lines = IsTrue b.flash.told → lines ≡ component_lines 0 config.0 installed.active b.flash.reads

  one_lines : (config : List Entry × Key × Frame) (installed : Record) → HasOne (AreLines config installed) (λ (r : Reply). ⊥)
  one_lines config installed = record { value = λ x y g h. h t ∙ sym (g t); refusal = λ r q g h. absurd g; never = λ x q g h. h }

  abbrev TellsStatus : Reply → Type 0
  TellsStatus =
      Behind (Holds b.flash) (HoldsNone b.flash) (λ config.
      Behind (IsInstalled config.2 b.flash) (IsNothing config.2 b.flash) (λ installed.
      Behind (AreLines config installed) (λ r. ⊥) (λ lines r. IsReply r outcomes.Done (record_lines installed ++ lines))))

  status_stages : (r : Reply) → StatusSays b r → TellsStatus r
  status_stages r (AtConfig x) = Stops x
  status_stages r (AtRecord c h n) = Passes c h (Stops n)
  status_stages r (AtLines c i l h j e says) = Passes c h (Passes i j (Passes l e says))

  pub one_status : (r q : Reply) → StatusSays b r → StatusSays b q → q ≡ r
  one_status r q first second =
      just_one _ _ _ (one_config configs b.flash t) (λ config h. just_one _ _ _ (one_record config.2) (λ installed j. just_one _ _ _ (one_lines config installed)
      (λ lines e x y says says'. one_reply x y _ _ says says')))
      r q (status_stages r first) (status_stages q second)
