use Rattle.std.proofs.Common.{refl, get_or}
use Rattle.flash_layout.proofs.FieldPlaces.{identifier_placed, id_placed, memory_placed, number_placed, page_places}
use Rattle.flash_layout.proofs.Laws.{entry_fields}
use Rattle.flash_layout.specs.ConfigPage.{entry_bytes}
use Rattle.flash_layout.proofs.law.page_laws.Goals as goal

pub returns-clause-memory : goal.returns-clause-memory
unfolding entry_bytes
returns-clause-memory c e typed short = memory_placed e.memory refl refl

pub returns-clause-slots : goal.returns-clause-slots
unfolding entry_bytes
returns-clause-slots c e typed short = refl

pub returns-clause-identifier : goal.returns-clause-identifier
unfolding entry_bytes
returns-clause-identifier c e typed short = identifier_placed e typed short

pub returns-clause-vendor : goal.returns-clause-vendor
unfolding entry_bytes
returns-clause-vendor c e typed short = let f = entry_fields e typed short in id_placed e.vendor _ f.one

pub returns-clause-class : goal.returns-clause-class
unfolding entry_bytes
returns-clause-class c e typed short = let f = entry_fields e typed short in id_placed e.class _ f.two

pub returns-clause-device : goal.returns-clause-device
unfolding entry_bytes
returns-clause-device c e typed short = let f = entry_fields e typed short in id_placed e.device _ f.three

pub returns-clause-capacity : goal.returns-clause-capacity
unfolding entry_bytes
returns-clause-capacity c e typed short =
    let f = entry_fields e typed short in
    number_placed e.capacity _ typed.capacity f.size

pub returns-clause-first : goal.returns-clause-first
unfolding entry_bytes
returns-clause-first c e typed short =
    let f = entry_fields e typed short in
    number_placed (get_or e.starts 0 0) _ typed.first f.start

pub returns-clause-second : goal.returns-clause-second
unfolding entry_bytes
returns-clause-second c e typed short =
    let f = entry_fields e typed short in
    number_placed (get_or e.starts 1 0) _ typed.second f.other

pub returns-clause-places : goal.returns-clause-places
unfolding entry_bytes
returns-clause-places c =
    page_places (λ e typed short. record {
      memory = returns-clause-memory c e typed short;
      slots = returns-clause-slots c e typed short;
      identifier = returns-clause-identifier c e typed short;
      vendor = returns-clause-vendor c e typed short;
      class = returns-clause-class c e typed short;
      device = returns-clause-device c e typed short;
      capacity = returns-clause-capacity c e typed short;
      first = returns-clause-first c e typed short;
      second = returns-clause-second c e typed short;
    })
