-- Seeding and unseeding, by what the table of names does and answers.
use Rattle.std.proofs.Common.{◌≡◌, ℕ, Bool, true, false, cond, ltb, List, length, Ok, Err, Result, is_ok, sym, refl, ap, ◌∙◌, ltb-false}
use Rattle.refusals.specs.Turns.{Turn, Gives, accepted_turn, refused_turn}
use Rattle.vocabulary.specs.declared.fault.NoSuchName.{NoSuchName}
use Rattle.vocabulary.specs.Entities.{Entity, reseed}
use Rattle.vocabulary.proofs.Kept.{reseed_past}
use Rattle.book.specs.Contents.{Contents}
use Rattle.book.specs.Calls.{seeding_call}

pub seeding_gives : (b : Contents) (names : List Entity) (n : ℕ) (on : Bool) (r : Result (Unit {0}) NoSuchName) → names ≡ reseed b.names n on → is_ok r ≡ ltb n (length b.names) → Gives (record { names = names; axioms = b.axioms }) r (seeding_call b n on)
seeding_gives b names n on r after value = go r _ refl value
  where
    on_names : List Entity → Contents
    on_names ns = record { names = ns; axioms = b.axioms }

    turn : Bool → Turn Contents (Result (Unit {0}) NoSuchName)
    turn there = cond there (accepted_turn (on_names (reseed b.names n on)) tt) (refused_turn b (record {}))

    go : (r : Result (Unit {0}) NoSuchName) (there : Bool) → ltb n (length b.names) ≡ there → is_ok r ≡ there → Gives (on_names names) r (turn there)
    go (Ok x) true e v = record { state = ap on_names after; answer = refl }
    go (Ok x) false e v = cc
    go (Err f) true e v = cc
    go (Err f) false e v = record { state = ap on_names (after ∙ sym (reseed_past b.names n on (ltb-false n (length b.names) e))); answer = refl }
