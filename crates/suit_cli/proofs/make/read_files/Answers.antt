use Rattle.std.proofs.Common.{◌≡◌, ◌∙◌, ℕ, ◌+◌, List, [], ◌∷◌, ◌++◌, drop, Ok, refl, sym, ap, subst, arith}
use Rattle.std.proofs.lemmas.List.{drop_all}
use Rattle.suit_cli.specs.Outside.{Outside}
use Rattle.suit_cli.specs.Stages.{Does}
use Rattle.suit_cli.specs.Authoring.{files_after}
use Rattle.suit_cli.proofs.Chains.{anywhere}
use Rattle.suit_cli.proofs.Authoring.{Files, file_then, each_has, starves_behind, stops_at, name_left}
use Rattle.suit_cli.proofs.make.read_files.Goals as goal

pub returns-in_err-bytes-clause-does : goal.returns-in_err-bytes-clause-does
returns-in_err-bytes-clause-does g c flash =
    c.loop-name.invariant flash c.from_residual.result _
    (name_left c.loop-name.files c.as_slice-name-items.result.now c.loop-name.name-index c.name-item.result _ c.as_str.result.now _ _ c.from_residual.result c.loop-name-test.true c.name-item.is c.as_str.ensures
    (stops_at c.loop-name.files c.as_str.result.now _ _ _ c.from_residual.result c.in_err-bytes.field-0.0 c.from_residual.ensures.1 (c.in_err-bytes.ensures flash)))

pub returns-in_err-from_str-clause-does : goal.returns-in_err-from_str-clause-does
returns-in_err-from_str-clause-does g c flash =
    c.loop-name.invariant flash c.from_residual-in_err-from_str.result _
    (name_left c.loop-name.files c.as_slice-name-items.result.now c.loop-name.name-index c.name-item.result _ c.as_str.result.now _ _ c.from_residual-in_err-from_str.result c.loop-name-test.true c.name-item.is c.as_str.ensures
    (starves_behind c.loop-name.files c.as_str.result.now c.in_ok-bytes.bytes _ _ _ c.from_residual-in_err-from_str.result c.from_residual-in_err-from_str.ensures.1 (c.in_ok-bytes.ensures flash)))

pub returns-in_err-push-clause-does : goal.returns-in_err-push-clause-does
returns-in_err-push-clause-does g c flash =
    c.loop-name.invariant flash c.from_residual-in_err-push.result _
    (name_left c.loop-name.files c.as_slice-name-items.result.now c.loop-name.name-index c.name-item.result _ c.as_str.result.now _ _ c.from_residual-in_err-push.result c.loop-name-test.true c.name-item.is c.as_str.ensures
    (starves_behind c.loop-name.files c.as_str.result.now c.in_ok-bytes.bytes _ _ _ c.from_residual-in_err-push.result c.from_residual-in_err-push.ensures.1 (c.in_ok-bytes.ensures flash)))

pub loop-name-preserved : goal.loop-name-preserved
loop-name-preserved g c flash result after rest =
    let h = g.H.Host in
    let old : Outside = record { told = h.told; files = h.file c.loop-name.host; pulled = h.pulled c.loop-name.host; asked = h.asked c.loop-name.host; faults = h.faults c.loop-name.host; flash = flash } in
    let new : Outside = record { told = h.told; files = h.file c.read.new.host; pulled = h.pulled c.read.new.host; asked = h.asked c.read.new.host; faults = h.faults c.read.new.host; flash = flash } in
    let items : List (List ℕ) = c.as_slice-name-items.result.now in
    let left : List (List ℕ) = drop (c.loop-name.name-index + 1) items in
    let pushed : c.push.new.self ≡ c.loop-name.files ++ (c.as_str.result.now, c.in_ok-bytes.bytes) ∷ [] =
    c.in_ok-push.ensures.ok ∙ ap (λ (x : List ℕ). c.loop-name.files ++ (x, c.in_ok-bytes.bytes) ∷ []) (c.in_ok-from_str.ensures ∙ c.as_str-in-loop-name.ensures ∙ sym c.as_str.ensures) in
    c.loop-name.invariant flash result after
    (name_left c.loop-name.files items c.loop-name.name-index c.name-item.result _ c.as_str.result.now old after result c.loop-name-test.true c.name-item.is c.as_str.ensures
    (file_then c.loop-name.files c.as_str.result.now c.in_ok-bytes.bytes left old new after result (c.in_ok-bytes.ensures flash)
    (subst (λ (fs : Files). Does (files_after fs left) new after result) pushed rest)))

pub returns-clause-each : goal.returns-clause-each
returns-clause-each g c =
    let h = g.H.Host in
    let here : Outside = record { told = h.told; files = h.file c.loop-name.host; pulled = h.pulled c.loop-name.host; asked = h.asked c.loop-name.host; faults = h.faults c.loop-name.host; flash = anywhere.flash } in
    let items : List (List ℕ) = c.as_slice-name-items.result.now in
    let none : drop c.loop-name.name-index items ≡ [] = drop_all c.loop-name.name-index items (omega (arith, c.loop-name-test.false)) in
    each_has [] c.args.names.now _ here c.loop-name.files
    (c.loop-name.invariant anywhere.flash (Ok c.loop-name.files) here
    (subst (λ (names : List (List ℕ)). Does (files_after c.loop-name.files names) here here (Ok c.loop-name.files)) (sym none) (refl, refl)))
