use Rattle.std.proofs.Common.{refl}
use Rattle.hmac_mac0.proofs.Layouts.{tail_map, tail_null, tail_string, none_map}
use Rattle.hmac_mac0.proofs.layout.last_tag.Goals as goal
use Rattle.hmac_mac0.proofs.layout.last_tag.Goals.{then-not-map-via-then-not-map, then-not-map-via-else-not-map+then-not-null}

pub returns-then-not-map-clause-none : goal.returns-then-not-map-clause-none
returns-then-not-map-clause-none c tag h =
    elim c.then-not-map.branch [
      | then-not-map-via-then-not-map w ↦
          let a = c.map.ensures.every _ (tail_map c.args.cursor.now.left tag h) in
          let b = w.if-not-map.true in
          absurd cc
      | then-not-map-via-else-not-map+then-not-null w ↦
          let m = c.map.ensures.passed w.if-not-map.false in
          let a = w.null.ensures.every _ (tail_null c.args.cursor.now.left c.map.new.cursor.left tag m h) in
          let b = w.if-not-null.true in
          absurd cc
    ]

pub returns-clause-none : goal.returns-clause-none
returns-clause-none c =
    none_map c.last_string.result c.last_string.ensures.none (λ none tag h.
    none tag (tail_string c.args.cursor.now.left c.map.new.cursor.left c.null.new.cursor.left tag (c.if-not-map.ensures.passed refl) (c.if-not-null.ensures.passed refl) h))
