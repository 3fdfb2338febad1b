use Rattle.suit_c.proofs.reading.suit_read.Goals as goal

pub returns-in-Err-clause-every_file : goal.returns-in-Err-clause-every_file
returns-in-Err-clause-every_file c said manifest file =
    let no = c.in-Err.ensures.every_file said manifest file in absurd cc
