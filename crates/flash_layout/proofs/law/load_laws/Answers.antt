use Rattle.std.proofs.Common.{arith}
use Rattle.flash_layout.proofs.Laws.{one_config}
use Rattle.flash_layout.proofs.OneAnswers.{blank_configured, same_configured}
use Rattle.flash_layout.proofs.law.load_laws.Goals as goal

pub returns : goal.returns
returns c = record {
  allowed = λ frame size layout key is. (is.layout_is, is.key_is, is.typed, is.whole);
  frame_is = λ frame size layout key is. is.frame_is;
  said = λ frame size image layout key long is. record { frame_is = is.placed; whole = omega (arith, long, is.whole); layout_is = is.page.allowed; key_is = is.page.sound; typed = is.typed };
  one = λ size image layout others key other frame there a b. same_configured one_config size image layout others key other frame there a b;
  not_blank = λ size image layout key frame is blank. blank_configured size image layout key frame is blank;
  not_bad = λ size image layout key frame is bad. bad.none layout key frame is;
  failed = λ before low f. omega (arith, f.rose low);
  config = λ layout key frame before now is. is;
  blank = λ before now is. is;
  bad = λ before now is. is;
  starved = λ before now is. is;
}
