-- Some bodies filed into the example.
use Rattle.std.proofs.Common.{ℕ, List, [], ◌∷◌, ◌++◌, replicate, refl}
use Rattle.vocabulary.specs.declared.name.NameId.{NameId}
use Rattle.refusals.specs.declared.reason.Reason.TheVariants as Reason'
use Rattle.refusals.specs.Refusals.{refusal_at}
use Rattle.terms.specs.Forms.{everything, concept, inclusion}
use Rattle.terms.specs.Reading.{read_whole}
use Rattle.book.specs.Calls.{axiom_call}
use Rattle.cases.specs.Example.{relay, distance, example}
use Rattle.cases.specs.WorkedCases.{Files, Refuses, negated}

module _ (aside : List ℕ) (seed : NameId) where
  -- each body is read to its end, or to its first faulty item
  pub files : Files (example aside seed) 16 (2 ∷ 1 ∷ 0 ∷ 2 ∷ 0 ∷ 0 ∷ []) (inclusion (concept distance) (concept relay)) 7
  unfolding axiom_call read_whole
  files = refl

  pub refuses : Refuses (example aside seed) 16 (2 ∷ 1 ∷ 0 ∷ 2 ∷ 4 ∷ 0 ∷ []) (refusal_at Reason'.WrongName 4)
  unfolding axiom_call read_whole
  refuses = record { answer = refl; unchanged = refl }

  pub files_deep : Files (example aside seed) 16 (replicate 23 4 ++ 1 ∷ 1 ∷ []) (inclusion (negated 23) everything) 7
  unfolding axiom_call read_whole
  files_deep = refl

  pub refuses_deep : Refuses (example aside seed) 16 (replicate 24 4 ++ 1 ∷ 1 ∷ []) (refusal_at Reason'.TooDeep 24)
  unfolding axiom_call read_whole
  refuses_deep = record { answer = refl; unchanged = refl }
