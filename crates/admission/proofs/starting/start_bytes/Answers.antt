use Rattle.std.proofs.Common.{arith, refl}
use Rattle.std.proofs.lemmas.Result.{err_from_is_err_and}
use Rattle.manifest_view.specs.Views.{manifest_of}
use Rattle.suit_envelope.specs.Said.{said_by}
use Rattle.admission.proofs.Refusing.{are_bytes}
use Rattle.admission.proofs.starting.start_bytes.Goals as goal

pub returns-in_err-authenticated-clause-refused : goal.returns-in_err-authenticated-clause-refused
returns-in_err-authenticated-clause-refused c =
    let p = err_from_is_err_and c.from_residual.result c.from_residual.ensures.1 in
    rw (p.1, p.2) (record {
      said = said_by c.in-Ok.envelope;
      manifest = manifest_of c.in-Ok-read.manifest;
      spell = record { spell = record { are_bytes = are_bytes c.args.bytes.now (λ i. omega (arith, c.type_inv.bytes i)); envelope = c.in-Ok.ensures.ok }; says = c.in-Ok-read.ensures.ok };
      unauthentic = c.in_err-authenticated.ensures.refused;
    })

pub returns-in_err-places-clause-refused : goal.returns-in_err-places-clause-refused
returns-in_err-places-clause-refused c =
    let p = err_from_is_err_and c.from_residual-in_err-places.result c.from_residual-in_err-places.ensures.1 in
    rw (p.1, p.2) (record {
      said = said_by c.in-Ok.envelope;
      manifest = manifest_of c.in-Ok-read.manifest;
      spell = record { spell = record { are_bytes = are_bytes c.args.bytes.now (λ i. omega (arith, c.type_inv.bytes i)); envelope = c.in-Ok.ensures.ok }; says = c.in-Ok-read.ensures.ok };
      authentic = c.in_ok-authenticated.ensures.authentic refl;
      unknown = rw (← c.copy.ensures.copied) c.in_err-places.ensures.unknown;
    })

pub returns-clause-startable : goal.returns-clause-startable
returns-clause-startable c =
    rw (c.copy.ensures.same) (record {
      spell = record { spell = record { are_bytes = are_bytes c.args.bytes.now (λ i. omega (arith, c.type_inv.bytes i)); envelope = c.in-Ok.ensures.ok }; says = c.in-Ok-read.ensures.ok };
      authentic = c.in_ok-authenticated.ensures.authentic refl;
      placed = rw (← c.copy.ensures.copied) c.in_ok-places.ensures.ok;
    })
