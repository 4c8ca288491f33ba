-- The records of seeds, loaded after those of the names, seed the names that were seeded.
use Rattle.std.proofs.Common.{◌≡◌, ℕ, suc, ◌/◌, ◌%◌, ◌<◌, Bool, true, false, cond, List, [], ◌∷◌, ◌++◌, map, length, sym, refl, ap, ◌∙◌, subst, ap₂, arith, length-append}
use lib.Seq.{append_snoc}
use Rattle.std.proofs.lemmas.Bool.{lt-ltb, cond-true}
use Rattle.vocabulary.specs.Entities.{Entity, reseed}
use Rattle.book.specs.Contents.{Contents}
use Rattle.book.specs.Calls.{seeding_call}
use Rattle.part.specs.Parts.{seed_entry, seeds_from}
use Rattle.records.specs.declared.kind.RecordKind.TheVariants.{Seed}
use Rattle.records.specs.Taking.{IsTaken, AreTaken}
use Rattle.records.proofs.Files.{two_parts}
use Rattle.part.proofs.NamesTaken.{unseeded}

-- the contents with these names and no axiom
abbrev pub no_axioms : List Entity → Contents
no_axioms ns = record { names = ns; axioms = [] }

-- the name after those of a list is seeded or not
reseed_at : (pre : List Entity) (e : Entity) (es : List Entity) (on : Bool) → reseed (pre ++ e ∷ es) (length pre) on ≡ pre ++ record { kind = e.kind; label = e.label; seeded = on } ∷ es
reseed_at [] e es on = refl
reseed_at (d ∷ pre) e es on = ap (λ l. d ∷ l) (reseed_at pre e es on)

-- one seed, of a name of the book
pub seed_taken : (b : Contents) (n : ℕ) → n < length b.names → IsTaken b (seed_entry n) (record { names = reseed b.names n true; axioms = b.axioms })
seed_taken b n h = record {
  kind = Seed;
  known = refl;
  short = omega arith;
  call = record {
    low = n % 256;
    high = n / 256;
    is_body = refl;
    accepted = ap (λ m. seeding_call b m true) (two_parts n) ∙ cond-true _ _ _ (lt-ltb n (length b.names) h);
  };
}

-- a name marked as it was marked
as_it_was : (pre : List Entity) (e : Entity) (es : List Entity) (on : Bool) → e.seeded ≡ on → pre ++ record { kind = e.kind; label = e.label; seeded = on } ∷ es ≡ pre ++ e ∷ es
as_it_was pre e es on is = ap (λ s. pre ++ record { kind = e.kind; label = e.label; seeded = s } ∷ es) (sym is)

-- a name that was seeded is seeded by its record, and no other has one
one_taken : (pre : List Entity) (e : Entity) (es from to : List Entity) (n : ℕ) (more : List ℕ) (on : Bool) → e.seeded ≡ on → n ≡ length pre → from ≡ pre ++ unseeded e ∷ es → AreTaken (no_axioms (pre ++ e ∷ es)) (map seed_entry more) (no_axioms to) → AreTaken (no_axioms from) (map seed_entry (cond on (n ∷ more) more)) (no_axioms to)
one_taken pre e es from to n more false is at start later = subst (λ l. AreTaken (no_axioms l) (map seed_entry more) (no_axioms to)) (sym (start ∙ as_it_was pre e es false is)) later
one_taken pre e es from to n more true is at start later =
    let within : n < length from = omega (arith, ap length start, length-append pre (unseeded e ∷ es)) in
    let same = ap₂ (λ l m. reseed l m true) start at ∙ reseed_at pre (unseeded e) es true ∙ as_it_was pre e es true is in
    (no_axioms (pre ++ e ∷ es), subst (λ l. IsTaken (no_axioms from) (seed_entry n) (no_axioms l)) same (seed_taken (no_axioms from) n within), later)

-- all seeds, where the names before are as they were
pub seeds_taken : (pre es from to : List Entity) (n : ℕ) → n ≡ length pre → from ≡ pre ++ map unseeded es → to ≡ pre ++ es → AreTaken (no_axioms from) (map seed_entry (seeds_from n es)) (no_axioms to)
seeds_taken pre [] from to n at start end = ap no_axioms (start ∙ sym end)
seeds_taken pre (e ∷ es) from to n at start end =
    let next : suc n ≡ length (pre ++ e ∷ []) = omega (arith, length-append pre (e ∷ [])) in
    let later = seeds_taken (pre ++ e ∷ []) es (pre ++ e ∷ map unseeded es) to (suc n) next (sym (append_snoc pre e (map unseeded es))) (end ∙ sym (append_snoc pre e es)) in
    one_taken pre e (map unseeded es) from to n (seeds_from (suc n) es) e.seeded refl at start later
