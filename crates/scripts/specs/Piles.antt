-- The words of tests and of piles. A pile's word is `whole`, or the words of its tests, from the uppermost down, with `/` between them.
use Rattle.std.specs.Prelude.{ℕ, ◌==◌, if◌then◌else◌, List, [], ◌∷◌, bytes_eq, codes, length, nat_le, Some, None, Option, option_and_then}
use Rattle.std.specs.List.{find, slice_split}
use Rattle.std.specs.Option.{option_map}
use Rattle.locality.specs.declared.test.Test.{Test}
use Rattle.locality.specs.declared.test.Test.TheVariants.{Bottom, Top}

-- the word of each test
abbrev pub test_word : Test → List ℕ
test_word Bottom = codes "bottom"
test_word Top = codes "top"

-- the test with this word
abbrev pub test_named : List ℕ → Option Test
test_named w = find (λ t. bytes_eq w (test_word t)) (Bottom ∷ Top ∷ [])

-- a pile by words has at most 16 stages
abbrev pub most_stages : ℕ
most_stages = 16

module _ {T : Type 0} (named : List ℕ → Option T) where
  -- the tests with these words, if each word is that of a test
  abbrev pub tests_named : List (List ℕ) → Option (List T)
  tests_named [] = Some []
  tests_named (w ∷ ws) = option_and_then (λ t. option_map (λ ts. t ∷ ts) (tests_named ws)) (named w)

  -- no more words than a pile by words has stages
  abbrev pub few_named : List (List ℕ) → Option (List T)
  few_named ws = if nat_le (length ws) most_stages then tests_named ws else None

  abbrev pub stages_named : List ℕ → Option (List T)
  stages_named w = few_named (slice_split (λ b. b == 47) w)

  -- the pile with this word
  abbrev pub pile_named : List ℕ → Option (List T)
  pile_named w = if bytes_eq w (codes "whole") then Some [] else stages_named w
