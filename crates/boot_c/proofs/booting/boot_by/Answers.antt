use Rattle.std.proofs.Common.{◌≡◌, ◌∙◌, ap, inl, inr, refl, subst, sym, ℕ, List, [], ◌∷◌, Some, None}
use Rattle.boot_c.specs.Images.{IsLaunched}
use Rattle.step_machine.specs.Devices.{device_at}
use Rattle.step_machine.specs.declared.plan_end.PlanEnd.TheVariants as plays
use Rattle.boot_c.specs.BootAnswers.{boot_answer}
use Rattle.boot_c.proofs.Ends.{ended_so}
use Rattle.boot_c.proofs.Images.{one_safe, only_ended}
use Rattle.boot_c.proofs.Without.{same_answer, told_answers}
use Rattle.flash_view.specs.Noting.{launches_in, launches_of, noted_launch}
use Rattle.flash_view.specs.ViewDisk.{ViewState}
use Rattle.invoke_proc.specs.Booting.{PlayedSo, PlaysBoot}
use Rattle.invoke_proc.specs.declared.boot_end.BootEnd.{BootEnd}
use Rattle.rollback_record.specs.SoundFlash.{Sound}
use Rattle.suit_answers.specs.declared.answer.Answer.TheVariants as answers
use Rattle.suit_edge.specs.declared.launch.Launch.{Launch}
use Rattle.boot_c.proofs.booting.boot_by.Goals as goal

pub returns-in_default-end-clause-answers : goal.returns-in_default-end-clause-answers
returns-in_default-end-clause-answers c =
    told_answers _ _ c.without-in_default-end.ensures c.args.flash.now
    (ended_so c.args.flash.now c.args.layout.now c.args.key.now c.args.frame c.new-disk.result c.new-disk.ensures c.requires.held c.boot-end.new.disk.bytes (launches_of c.new-launcher.result) (ap launches_of c.new-launcher.ensures) (launches_of c.boot-end.new.launcher) c.boot-end.result (c.boot-end.ensures.answers refl) (c.boot-end.ensures.plays refl refl) (c.boot-end.ensures.host refl refl) c.boot_answer-answer.result (inl c.boot_answer-answer.ensures))

pub returns-in_default-end-clause-none : goal.returns-in_default-end-clause-none
returns-in_default-end-clause-none c = λ done. λ none.
    absurd (c.in_default-end.not-Ended (only_ended c.boot-end.result (sym c.boot_answer-answer.ensures ∙ (sym (same_answer _ _ c.without-in_default-end.ensures) ∙ done))))

pub returns-in_default-noted-clause-answers : goal.returns-in_default-noted-clause-answers
returns-in_default-noted-clause-answers c =
    told_answers _ _ c.without-in_default-noted.ensures c.args.flash.now
    (ended_so c.args.flash.now c.args.layout.now c.args.key.now c.args.frame c.new-disk.result c.new-disk.ensures c.requires.held c.boot-end.new.disk.bytes (launches_of c.new-launcher.result) (ap launches_of c.new-launcher.ensures) (launches_of c.boot-end.new.launcher) c.boot-end.result (c.boot-end.ensures.answers refl) (c.boot-end.ensures.plays refl refl) (c.boot-end.ensures.host refl refl) c.boot_answer-answer.result (inl c.boot_answer-answer.ensures))

pub returns-in_default-noted-clause-none : goal.returns-in_default-noted-clause-none
returns-in_default-noted-clause-none c = λ done. λ none.
    let launcher = c.boot-end.new.launcher in
    let before : launches_of c.new-launcher.result ≡ [] = ap launches_of c.new-launcher.ensures in
    let after : launches_of launcher ≡ [] = ap (launches_in launcher.flash) (sym c.in_default-noted.ensures) in
    let played = subst (λ (e : BootEnd). PlayedSo (PlaysBoot c.args.frame c.args.layout.now c.args.key.now (λ _. None) (device_at c.new-disk.result.bytes (launches_of c.new-launcher.result)) (device_at c.boot-end.new.disk.bytes (launches_of launcher))) (c.boot-end.new.disk.bytes ≡ c.new-disk.result.bytes) (launches_of c.new-launcher.result) (launches_of launcher) e) c.in-Ended.is (c.boot-end.ensures.plays refl refl) in
    record {
      config = record { layout = c.args.layout.now; key = c.args.key.now; frame = c.args.frame; is = c.requires.held };
      after = c.boot-end.new.disk.bytes;
      plays = subst (λ (d : ViewState). PlaysBoot c.args.frame c.args.layout.now c.args.key.now (λ _. None) (device_at d.bytes []) (device_at c.boot-end.new.disk.bytes []) plays.Done) c.new-disk.ensures
          (subst (λ (l : List Launch). PlaysBoot c.args.frame c.args.layout.now c.args.key.now (λ _. None) (device_at c.new-disk.result.bytes l) (device_at c.boot-end.new.disk.bytes []) plays.Done) before
          (subst (λ (l : List Launch). PlaysBoot c.args.frame c.args.layout.now c.args.key.now (λ _. None) (device_at c.new-disk.result.bytes (launches_of c.new-launcher.result)) (device_at c.boot-end.new.disk.bytes l) plays.Done) after played));
    }

pub returns-in-Some-image_in-clause-answers : goal.returns-in-Some-image_in-clause-answers
returns-in-Some-image_in-clause-answers c =
    ended_so c.args.flash.now c.args.layout.now c.args.key.now c.args.frame c.new-disk.result c.new-disk.ensures c.requires.held c.boot-end.new.disk.bytes (launches_of c.new-launcher.result) (ap launches_of c.new-launcher.ensures) (launches_of c.boot-end.new.launcher) c.boot-end.result (c.boot-end.ensures.answers refl) (c.boot-end.ensures.plays refl refl) (c.boot-end.ensures.host refl refl) c.boot_answer-answer.result (inl c.boot_answer-answer.ensures)

-- an image without a digest is no image
pub returns-in-None-clause-answers : goal.returns-in-None-clause-answers
returns-in-None-clause-answers c =
    told_answers _ _ c.without-in-None.ensures c.args.flash.now
    (ended_so c.args.flash.now c.args.layout.now c.args.key.now c.args.frame c.new-disk.result c.new-disk.ensures c.requires.held c.boot-end.new.disk.bytes (launches_of c.new-launcher.result) (ap launches_of c.new-launcher.ensures) (launches_of c.boot-end.new.launcher) c.boot-end.result (c.boot-end.ensures.answers refl) (c.boot-end.ensures.plays refl refl) (c.boot-end.ensures.host refl refl) answers.LaunchFault (inr (refl, c.in-Ended.is, (noted_launch c.boot-end.new.launcher.flash c.in-Some.note.now, ap (launches_in c.boot-end.new.launcher.flash) (sym c.in-Some.ensures)))))

pub returns-in-Some-image_in-clause-image : goal.returns-in-Some-image_in-clause-image
returns-in-Some-image_in-clause-image c =
    let launcher = c.boot-end.new.launcher in
    let launch = noted_launch launcher.flash c.in-Some.note.now in
    let none : launches_of c.new-launcher.result ≡ [] = ap launches_of c.new-launcher.ensures in
    let noted : launcher.noted ≡ Some c.in-Some.note.now = sym c.in-Some.ensures in
    let one : launches_of launcher ≡ launch ∷ [] = ap (launches_in launcher.flash) noted in
    let played = subst (λ (e : BootEnd). PlayedSo (PlaysBoot c.args.frame c.args.layout.now c.args.key.now (λ _. None) (device_at c.new-disk.result.bytes (launches_of c.new-launcher.result)) (device_at c.boot-end.new.disk.bytes (launches_of launcher))) (c.boot-end.new.disk.bytes ≡ c.new-disk.result.bytes) (launches_of c.new-launcher.result) (launches_of launcher) e) c.in-Ended.is (c.boot-end.ensures.plays refl refl) in (
      c.boot_answer-answer.ensures ∙ ap boot_answer c.in-Ended.is,
      c.in-Some-image_in.ensures.found,
      record {
        config = record { layout = c.args.layout.now; key = c.args.key.now; frame = c.args.frame; is = c.requires.held };
        launch = launch;
        launched = subst (λ (seen : List ℕ). IsLaunched c.args.flash.now c.in-Some-image_in.image (noted_launch seen c.in-Some.note.now)) c.flash.ensures c.in-Some-image_in.ensures.launched;
        after = c.boot-end.new.disk.bytes;
        plays = subst (λ (d : ViewState). PlaysBoot c.args.frame c.args.layout.now c.args.key.now (λ _. None) (device_at d.bytes []) (device_at c.boot-end.new.disk.bytes (launch ∷ [])) plays.Done) c.new-disk.ensures
            (subst (λ (l : List Launch). PlaysBoot c.args.frame c.args.layout.now c.args.key.now (λ _. None) (device_at c.new-disk.result.bytes l) (device_at c.boot-end.new.disk.bytes (launch ∷ [])) plays.Done) none
            (subst (λ (l : List Launch). PlaysBoot c.args.frame c.args.layout.now c.args.key.now (λ _. None) (device_at c.new-disk.result.bytes (launches_of c.new-launcher.result)) (device_at c.boot-end.new.disk.bytes l) plays.Done) one played));
        safe = λ sound. one_safe (launches_of c.new-launcher.result) (launches_of launcher) launch none one (c.boot-end.ensures.safe refl refl (subst (λ (d : ViewState). Sound d.bytes) (sym c.new-disk.ensures) sound));
      },
    )
