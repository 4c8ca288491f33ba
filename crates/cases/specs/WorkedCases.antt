-- The worked cases: what stages of the two tests keep of the example, and what its book says to some axioms.
use Rattle.std.specs.Prelude.{◌≡◌, ℕ, zero, suc, List, [], ◌∷◌, ◌++◌, map, replicate, Some}
use Rattle.vocabulary.specs.declared.name.NameId.{NameId}
use Rattle.refusals.specs.declared.refusal.Refusal.{Refusal}
use Rattle.refusals.specs.Choice.{refusal_of}
use Rattle.refusals.specs.Turns.{accepted_turn}
use Rattle.refusals.specs.declared.reason.Reason.TheVariants as Reason'
use Rattle.refusals.specs.Refusals.{refusal_at}
use Rattle.std.specs.List.{filter}
use Rattle.terms.specs.Forms.{Form, Rule, everything, concept, just, negation, inclusion, member, related}
use Rattle.book.specs.Contents.{Contents}
use Rattle.book.specs.Calls.{with_axiom, filing_call}
use Rattle.book.specs.Refusals.{file_refusal}
use Rattle.locality.specs.declared.test.Test.{Test}
use Rattle.locality.specs.Mentions.{in_rule}
use Rattle.locality.specs.SingleTerms.{SingleTerms}
use Rattle.locality.specs.Tables.{test_meaning}
use Rattle.extraction.specs.Extractions.{Extraction, whole, piled}
use Rattle.extraction.specs.Sets.{names_drawn_in, list_size}
use Rattle.cases.specs.Example.{among, relay, distance, bay, has, inside, q1, example}

-- what stages of these tests, the uppermost first, come to over the whole extractor
abbrev pub stages : List Test → Contents → Extraction
stages tests b = piled b (map test_meaning tests) (whole b)

-- of the book they keep exactly the axioms with these numbers, in so many rounds,
-- and draw in so many names
pub record Keeps (tests : List Test) (b : Contents) (kept : List ℕ) (rounds drawn : ℕ) : Type 0 where
  pub marks : (k : ℕ) → (stages tests b).kept k ≡ among kept k
  pub takes : (stages tests b).rounds ≡ rounds
  pub draws : list_size b (names_drawn_in b (stages tests b).kept) ≡ drawn

-- filing the body by the record kind puts the axiom at the end, in force, under that number
abbrev pub Files : Contents → ℕ → List ℕ → Rule → ℕ → Type 0
Files b kind body r k =
    filing_call b kind body ≡ accepted_turn (with_axiom b r) (record { 0 = k })

-- it is refused, and the book stays as it was
pub record Refuses (b : Contents) (kind : ℕ) (body : List ℕ) (r : Refusal) : Type 0 where
  pub answer : refusal_of file_refusal (filing_call b kind body).answer ≡ Some r
  pub unchanged : (filing_call b kind body).state ≡ b

-- the numbers below 7 of the names of an axiom
abbrev pub names_in : Rule → List ℕ
names_in r = filter (λ n. in_rule r (record { 0 = n })) (0 ∷ 1 ∷ 2 ∷ 3 ∷ 4 ∷ 5 ∷ 6 ∷ [])

-- everything, negated so many times
abbrev pub negated : ℕ → Form
negated zero = everything
negated (suc n) = negation (negated n)

-- axiom 5 is laid aside but where it is said to be in force
pub record WorkedCases (bottom top : Test) : Type 0 where
  -- Bay is seeded: bottom keeps nothing
  pub bay_bottom : Keeps (bottom ∷ []) (example (5 ∷ []) bay) [] 1 0
  -- Relay is seeded: that a relay is in a bay, that no bay is a relay, and that "in" is transitive
  pub relay_bottom : Keeps (bottom ∷ []) (example (5 ∷ []) relay) (2 ∷ 3 ∷ 6 ∷ []) 3 2
  -- with axiom 5 in force, what it says of one individual draws in everything
  pub relay_whole : Keeps (bottom ∷ []) (example [] relay) (0 ∷ 1 ∷ 2 ∷ 3 ∷ 4 ∷ 5 ∷ 6 ∷ []) 4 6
  -- Distance is seeded: top keeps all that is in force
  pub distance_top : Keeps (top ∷ []) (example (5 ∷ []) distance) (0 ∷ 1 ∷ 2 ∷ 3 ∷ 4 ∷ 6 ∷ []) 4 5
  -- "has" is seeded, and axiom 3 laid aside too
  pub has_bottom : Keeps (bottom ∷ []) (example (3 ∷ 5 ∷ []) has) (2 ∷ 4 ∷ 6 ∷ []) 4 3
  -- top over bottom keeps nothing of that
  pub has_both : Keeps (top ∷ bottom ∷ []) (example (3 ∷ 5 ∷ []) has) [] 5 0
  -- what the tests say of single terms
  pub single_terms : SingleTerms bottom top
  -- the individuals that an axiom is about, and those that stand in its terms, are names of it, as its roles are
  pub individuals :
      (names_in (related inside q1 relay) ≡ 0 ∷ 5 ∷ 6 ∷ []) ×
      (names_in (related inside relay q1) ≡ 0 ∷ 5 ∷ 6 ∷ []) ×
      (names_in (member q1 (just relay)) ≡ 0 ∷ 6 ∷ [])
  -- whatever is laid aside and seeded: every Distance is a Relay, filed once more
  pub filed : (aside : List ℕ) (seed : NameId) → Files (example aside seed) 16 (2 ∷ 1 ∷ 0 ∷ 2 ∷ 0 ∷ 0 ∷ []) (inclusion (concept distance) (concept relay)) 7
  -- a role where a concept is wanted
  pub wrong_name : (aside : List ℕ) (seed : NameId) → Refuses (example aside seed) 16 (2 ∷ 1 ∷ 0 ∷ 2 ∷ 4 ∷ 0 ∷ []) (refusal_at Reason'.WrongName 4)
  -- a term of nesting 24 is filed, one of 25 is refused at its innermost term
  pub deep : (aside : List ℕ) (seed : NameId) → Files (example aside seed) 16 (replicate 23 4 ++ 1 ∷ 1 ∷ []) (inclusion (negated 23) everything) 7
  pub too_deep : (aside : List ℕ) (seed : NameId) → Refuses (example aside seed) 16 (replicate 24 4 ++ 1 ∷ 1 ∷ []) (refusal_at Reason'.TooDeep 24)
