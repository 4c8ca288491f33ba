use Rattle.runs.proofs.state.performing.make.Goals as goal

pub returns-in_ok-id-in-Name-clause-law : goal.returns-in_ok-id-in-Name-clause-law
returns-in_ok-id-in-Name-clause-law c = rw (c.in-Name.is, ← c.as_slice.ensures.value) c.in_ok-id-in-Name.ensures.law

pub returns-in_ok-taken-in-Load-clause-law : goal.returns-in_ok-taken-in-Load-clause-law
returns-in_ok-taken-in-Load-clause-law c = rw (c.in-Load.is, ← c.as_slice-in-Load.ensures.value) c.in_ok-taken-in-Load.ensures.law.judged

pub returns-in_ok-lay_aside-in-LayAside-clause-law : goal.returns-in_ok-lay_aside-in-LayAside-clause-law
returns-in_ok-lay_aside-in-LayAside-clause-law c = rw c.in-LayAside.is c.in_ok-lay_aside-in-LayAside.ensures.law

pub returns-in_ok-restore-in-Restore-clause-law : goal.returns-in_ok-restore-in-Restore-clause-law
returns-in_ok-restore-in-Restore-clause-law c = rw c.in-Restore.is c.in_ok-restore-in-Restore.ensures.law

pub returns-in_ok-seed-in-Seed-clause-law : goal.returns-in_ok-seed-in-Seed-clause-law
returns-in_ok-seed-in-Seed-clause-law c = rw c.in-Seed.is c.in_ok-seed-in-Seed.ensures.law

pub returns-in_ok-unseed-in-Unseed-clause-law : goal.returns-in_ok-unseed-in-Unseed-clause-law
returns-in_ok-unseed-in-Unseed-clause-law c = rw c.in-Unseed.is c.in_ok-unseed-in-Unseed.ensures.law
