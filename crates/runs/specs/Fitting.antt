-- When each refusal of an edit fits, one by one and in no order: which of them is given, where several fit, is the one rule
-- for all calls.
use Rattle.std.specs.Prelude.{◌≡◌, Some, None, Ok, Err, Option}
use Rattle.refusals.specs.declared.refusal.Refusal.{Refusal}
use Rattle.refusals.specs.Choice.{Judged}
use Rattle.vocabulary.specs.Fitting.{NamingFits}
use Rattle.book.specs.Contents.{Contents}
use Rattle.book.specs.Fitting.{SeedingFits, ForcingFits, FilingFits}
use Rattle.records.specs.Fitting.{LoadFits}
use Rattle.runs.specs.declared.outcome.CallFault.TheVariants.{Refused, LoadRefused, NotAllowed}
use Rattle.runs.specs.Steps.{Change, Step, Standing, Status, Outcome, name, file, load, lay_aside, restore, seed, unseed, change, draft}

abbrev pub EditFits : Contents → Change → Refusal → Type 0
EditFits b (name kind label) = NamingFits b.names kind label
EditFits b (file kind body) = FilingFits b kind body
EditFits b (load bytes) = LoadFits b bytes
EditFits b (lay_aside k) = ForcingFits b k
EditFits b (restore k) = ForcingFits b k
EditFits b (seed n) = SeedingFits b n
EditFits b (unseed n) = SeedingFits b n

-- the refusal that an outcome tells, if it is one
abbrev pub refusal_in : Outcome → Option Refusal
refusal_in (Ok done) = None
refusal_in (Err (Refused r)) = Some r
refusal_in (Err (LoadRefused r taken)) = Some r
refusal_in (Err NotAllowed) = None

-- an edit of a draft is refused exactly if some refusal fits, and then by the one that decides; no other call is refused
abbrev pub JudgedFrom : Status → Contents → Step → Outcome → Type 0
JudgedFrom draft b (change c) r = Judged (EditFits b c) (refusal_in r)
JudgedFrom _ b _ r = refusal_in r ≡ None

abbrev pub CallIsJudged : Standing → Step → Outcome → Type 0
CallIsJudged s c r = JudgedFrom s.status s.book c r
