use Rattle.std.proofs.Common.{refl}
use Rattle.flash_layout.specs.RootLaws.{closed_by, other_by, told_by}
use Rattle.flash_layout.proofs.law.frame_laws.Goals as goal

pub returns-clause-root : goal.returns-clause-root
returns-clause-root c = record {
  place = refl;
  bytes = refl;
  closed = λ gate rest closed. closed_by gate rest closed;
  told = λ base fits. told_by base fits;
  other = λ version rest other. other_by version rest other;
}

pub returns-clause-second : goal.returns-clause-second
returns-clause-second c base = record {
  size = refl;
  most = refl;
  page = refl;
  record_0 = refl;
  record_1 = refl;
  bank_0 = refl;
  bank_1 = refl;
  bank_size = refl;
  journal = refl;
  checkpoint = refl;
  whole = refl;
}
