use Rattle.sdcl_io.proofs.Cases.{verified_exactly, not_verified_exactly, ended_exactly}
use Rattle.sdcl_io.proofs.laws.judgement_by_cases.Goals as goal

pub returns-clause-verified : goal.returns-clause-verified
returns-clause-verified c = verified_exactly

pub returns-clause-not_verified : goal.returns-clause-not_verified
returns-clause-not_verified c = not_verified_exactly

pub returns-clause-ended : goal.returns-clause-ended
returns-clause-ended c = ended_exactly
