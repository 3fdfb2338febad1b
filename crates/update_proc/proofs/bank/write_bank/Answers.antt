use Rattle.update_proc.proofs.bank.write_bank.Goals as goal

pub returns-in_ok-fill_bank-in-None-clause-keeps : goal.returns-in_ok-fill_bank-in-None-clause-keeps
returns-in_ok-fill_bank-in-None-clause-keeps g c t = rw c.in-None.is (c.fill_bank.ensures.keeps t)

pub returns-in_err-fill_bank-in-None-clause-keeps : goal.returns-in_err-fill_bank-in-None-clause-keeps
returns-in_err-fill_bank-in-None-clause-keeps g c t = rw c.in-None.is (c.fill_bank.ensures.keeps t)
