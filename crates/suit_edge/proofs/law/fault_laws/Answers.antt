use Rattle.std.proofs.Common.{arith}
use Rattle.suit_edge.proofs.law.fault_laws.Goals as goal

pub returns : goal.returns
returns c = record {
  grows = λ before now f. f.later;
  rises = λ before now f low. f.rose low;
  counts = λ before low f. omega (arith, f.rose low);
  one_more = λ before fits. record { later = omega arith; rose = λ low. omega arith };
  later = λ before now then f le. record { later = omega (arith, f.later, le); rose = λ low. omega (arith, f.rose, le, low) };
  sooner = λ before now then le f. record { later = omega (arith, f.later, le); rose = λ low. omega (arith, f.rose low, le) };
  done = λ before now is. is;
  failed = λ before low f. omega (arith, f.rose low);
}
