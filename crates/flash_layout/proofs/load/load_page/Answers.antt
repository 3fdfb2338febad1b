use Rattle.std.proofs.Common.{ℕ, sym, subst, ◌∙◌}
use Rattle.flash_layout.specs.ConfigPage.{IsConfigPage}
use Rattle.flash_layout.proofs.Loading.{bad, closed_blank, configured, open_gate}
use Rattle.flash_layout.proofs.load.load_page.Goals as goal
use Rattle.flash_layout.proofs.load.load_page.Goals.{else-frame-eq1-via-then-frame-eq1+else-page, else-frame-eq1-via-else-frame-eq1}

pub returns-then-page-clause-exact : goal.returns-then-page-clause-exact
returns-then-page-clause-exact g c t told =
    closed_blank (g.D.Disk.extent c.args.disk.now) c.args.frame c.requires (g.D.Disk.flash c.args.disk.now).reads c.read_page_bytes.new.page (g.met.D.Disk.obeys c.args.disk.now t).fits told
    (c.in-Done.ensures.read t) c.if-frame-eq1.true c.if-page.true

pub returns-in-Ok-Some-clause-exact : goal.returns-in-Ok-Some-clause-exact
returns-in-Ok-Some-clause-exact g c t told =
    let typed = rw c.in-Ok-Some.field-0-is at c.in-Ok-Some.ensures.typed in
    let page = rw c.in-Ok-Some.field-0-is at c.in-Ok-Some.ensures.ok in
    configured (g.D.Disk.extent c.args.disk.now) c.args.frame c.requires (g.D.Disk.flash c.args.disk.now).reads c.read_page_bytes.new.page (g.met.D.Disk.obeys c.args.disk.now t).fits told
    (c.in-Done.ensures.read t) c.in-Ok-Some.layout c.in-Ok-Some.key typed (subst (λ (n : ℕ). IsConfigPage c.args.frame n c.read_page_bytes.new.page c.in-Ok-Some.layout c.in-Ok-Some.key) (c.size-size.ensures ∙ c.read_page_bytes.ensures.size) page)

pub returns-in-Ok-None-clause-exact : goal.returns-in-Ok-None-clause-exact
returns-in-Ok-None-clause-exact g c t told =
    let read = c.in-Done.ensures.read t in
    let fits = (g.met.D.Disk.obeys c.args.disk.now t).fits in
    bad (g.D.Disk.extent c.args.disk.now) c.args.frame c.requires (g.D.Disk.flash c.args.disk.now).reads c.read_page_bytes.new.page fits told read
    (open_gate (g.D.Disk.extent c.args.disk.now) c.args.frame c.requires (g.D.Disk.flash c.args.disk.now).reads c.read_page_bytes.new.page fits told read
    (λ one. elim c.else-frame-eq1.branch [ else-frame-eq1-via-then-frame-eq1+else-page w ↦ w.if-page.false | else-frame-eq1-via-else-frame-eq1 w ↦ absurd (w.if-frame-eq1.false one) ]))
    (λ layout key typed page. let e = c.in-Ok-None.ensures.every layout key typed (subst (λ (n : ℕ). IsConfigPage c.args.frame n c.read_page_bytes.new.page layout key) (sym (c.size-size.ensures ∙ c.read_page_bytes.ensures.size)) page) in let n = c.in-Ok-None.field-0-is in cc)
