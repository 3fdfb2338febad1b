use Rattle.det_cbor.specs.ArgumentLaws.{bytes_of_all}
use Rattle.det_cbor.proofs.SplitLaws.{split_ok, split_again}
use Rattle.det_cbor.proofs.law.splitting_laws.Goals as goal

pub returns : goal.returns
returns c = record {
  item = λ bytes first rest all is.
      let split = split_ok bytes (first, rest) (bytes_of_all bytes all) is in
      (split.item, split.parts);
  every_item = split_again;
}
