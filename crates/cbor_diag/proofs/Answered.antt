-- The answer of reading a text.
use Rattle.std.proofs.Common.{◌≡◌, ℕ, List, [], true, Some, None, Result, Err, refl, sym, ap, subst, ◌∙◌}
use Rattle.std.specs.Str.{IsUtf8, is_utf8}
use Rattle.std.proofs.lemmas.Str.{is_utf8-from_IsUtf8}
use Rattle.det_cbor.specs.DataItem.{DataItem, TextString}
use Rattle.det_cbor.specs.declared.item.Item.{Item}
use Rattle.cbor_diag.specs.declared.fault.NotationFault.{NotationFault}
use Rattle.cbor_diag.specs.declared.fault.NotationFault.TheVariants.{NoNotation, NoMemory}
use Rattle.cbor_diag.specs.declared.quoted.Quoted.TheVariants as quoted
use Rattle.cbor_diag.specs.Reading.{Read, quoted_at, text_at, item_at}
use Rattle.cbor_diag.specs.Answers.{Notates, IsReadAs, Gives}
use Rattle.cbor_diag.proofs.Again.{notation_again, same_read}

-- what is read from the notation of an item is that item
same_item : (x y : DataItem) (text rest : List ℕ) → Notates x text → item_at 16 text ≡ Some (y, rest) → y ≡ x
same_item x y text rest n e = same_read y x rest [] (sym e ∙ notation_again x text n)

pub read_as : (x y : DataItem) (text rest : List ℕ) (r : Result Item NotationFault) → item_at 16 text ≡ Some (y, rest) → (Notates y text → IsReadAs y r) → Notates x text → IsReadAs x r
read_as x y text rest r e only n =
    let same : y ≡ x = same_item x y text rest n e in
    subst (λ (z : DataItem). IsReadAs z r) same (only (subst (λ (z : DataItem). Notates z text) (sym same) n))

pub not_refused : {X : Type 0} (view : X → DataItem × List ℕ) (x : DataItem) (text : List ℕ) (fault : NotationFault) → Notates x text → Gives view (Err fault) (item_at 16 text) → fault ≡ NoMemory
not_refused view x text NoMemory n g = refl
not_refused view x text NoNotation n g = let never : ◌≡◌ {A = Read DataItem} None (Some (x, [])) = sym g ∙ notation_again x text n in absurd cc

pub text_whole : (text bytes made rest : List ℕ) → quoted_at quoted.Text text ≡ Some (bytes, rest) → made ≡ bytes → IsUtf8 made → text_at text ≡ Some (TextString made, rest)
text_whole text bytes made rest e same utf8 =
    let good : is_utf8 made ≡ true = is_utf8-from_IsUtf8 made utf8 in
    let read : quoted_at quoted.Text text ≡ Some (made, rest) = e ∙ ap (λ (l : List ℕ). Some (l, rest)) (sym same) in
    rw (read, good) refl
