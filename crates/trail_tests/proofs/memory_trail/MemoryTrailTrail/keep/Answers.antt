use Rattle.std.proofs.Common.{◌∙◌, ◌<◌, ◌+◌, [], ◌∷◌, ◌++◌, ap, arith, length, refl, take}
use Rattle.trail_tests.specs.TrailStates.{TrailState}
use Rattle.trail_tests.proofs.TrailSteps.{put, whole}
use Rattle.trail_tests.proofs.memory_trail.MemoryTrailTrail.keep.Goals as goal

pub push-requires : goal.push-requires
push-requires g c =
    let held = c.self.inside in
    let left = ap (λ (t : TrailState). t.left) c.self.view_is ∙ c.requires.all_recalled in
    let list = ap (λ (t : TrailState). length t.list) c.self.view_is in
    let room : length c.args.self.now.list < 64 = c.requires.room refl in
    let fits : length held.outcomes.items < 64 = omega (arith, room, list, whole held.outcomes.items held.recalled held.within left) in
    (omega arith, fits)

pub returns-clause-list : goal.returns-clause-list
returns-clause-list g c told =
    let held = c.self.inside in
    let left = ap (λ (t : TrailState). t.left) c.self.view_is ∙ c.requires.all_recalled in
    ap (take (held.recalled + 1)) c.push.ensures.items ∙ (put held.outcomes.items held.recalled c.args.passed held.within left).1
    ∙ ap (λ (t : TrailState). t.list ++ c.args.passed ∷ []) c.self.view_is
