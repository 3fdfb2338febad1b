use Rattle.std.proofs.Common.{◌≡◌, ◌∙◌, ◌+◌, ◌-◌, ℕ, List, length, take, drop, Ok, refl, sym, ap, arith}
use Rattle.det_cbor.specs.Position.{Position}
use Rattle.suit_cursor.proofs.Passed.{head_ok, pairs_ok, shorter, item_is}
use Rattle.suit_cursor.proofs.passing.take_map.Goals as goal

-- the bytes are those of the cursor
same : (p copied map : Position) (place : ℕ) (rest : List ℕ) → place ≡ p.place → copied ≡ p → rest ≡ copied.left → map ≡ record { left = rest; place = place } → map ≡ p
same p copied map place rest at is left e = e ∙ ap (λ (l : List ℕ). record { left = l; place = place }) (left ∙ ap (λ (q : Position). q.left) is) ∙ ap (λ (n : ℕ). record { left = p.left; place = n }) at

pub head-pairs-requires : goal.head-pairs-requires
head-pairs-requires c =
    head_ok c.args.count c.args.cursor.now c.new-map.result (same c.args.cursor.now c.same_place.result c.new-map.result c.place-place.result c.bytes_left-rest.result.now c.place-place.ensures.value c.same_place.ensures.copied c.bytes_left-rest.ensures c.new-map.ensures) c.same_place.ensures.bytes c.requires

pub pass_pairs-requires : goal.pass_pairs-requires
pass_pairs-requires c =
    pairs_ok c.args.count c.args.cursor.now c.new-map.result (same c.args.cursor.now c.same_place.result c.new-map.result c.place-place.result c.bytes_left-rest.result.now c.place-place.ensures.value c.same_place.ensures.copied c.bytes_left-rest.ensures c.new-map.ensures) c.same_place.ensures.bytes c.requires
    c.head-pairs.result c.head-pairs.new.self c.head-pairs.ensures

pub overflow_sub-length : goal.overflow_sub-length
overflow_sub-length c =
    let fits = shorter c.args.count c.args.cursor.now c.new-map.result (same c.args.cursor.now c.same_place.result c.new-map.result c.place-place.result c.bytes_left-rest.result.now c.place-place.ensures.value c.same_place.ensures.copied c.bytes_left-rest.ensures c.new-map.ensures) c.same_place.ensures.bytes c.requires
    c.head-pairs.result c.head-pairs.new.self c.pass_pairs.new.map c.head-pairs.ensures c.pass_pairs.ensures in
    omega (arith, c.left.ensures, ap length (c.bytes_left-rest.ensures ∙ ap (λ (q : Position). q.left) c.same_place.ensures.copied))

pub returns : goal.returns
returns c =
    let p = c.args.cursor.now in
    let n = length c.bytes_left-rest.result.now - c.left.result in
    let rest : c.bytes_left-rest.result.now ≡ p.left = c.bytes_left-rest.ensures ∙ ap (λ (q : Position). q.left) c.same_place.ensures.copied in
    let long : n ≡ length p.left - length c.pass_pairs.new.map.left = ap (λ (l : List ℕ). length l - c.left.result) rest ∙ ap (λ (m : ℕ). length p.left - m) c.left.ensures in
    let read = item_is c.args.count p c.new-map.result (same p c.same_place.result c.new-map.result c.place-place.result c.bytes_left-rest.result.now c.place-place.ensures.value c.same_place.ensures.copied c.bytes_left-rest.ensures c.new-map.ensures) c.same_place.ensures.bytes c.requires
    c.head-pairs.result c.head-pairs.new.self c.pass_pairs.new.map n c.head-pairs.ensures c.pass_pairs.ensures long in
    let item : record { left = take n p.left; place = p.place } ≡ c.new-2.result =
    sym (c.new-2.ensures ∙ ap (λ (l : List ℕ). record { left = l; place = c.place-place.result }) (c.split_at.ensures.front ∙ ap (take n) rest) ∙ ap (λ (m : ℕ). record { left = take n p.left; place = m }) c.place-place.ensures.value) in
    let behind : record { left = drop n p.left; place = p.place + n } ≡ c.new.result =
    sym (c.new.ensures ∙ ap (λ (l : List ℕ). record { left = l; place = c.place-place.result + n }) (c.split_at.ensures.back ∙ ap (drop n) rest) ∙ ap (λ (m : ℕ). record { left = drop n p.left; place = m + n }) c.place-place.ensures.value) in
    read ∙ ap (λ (x : Position). Ok (x, record { left = drop n p.left; place = p.place + n })) item ∙ ap (λ (x : Position). Ok (c.new-2.result, x)) behind
