-- A call of a book is refused exactly if some refusal fits, and then by the one that decides.
use Rattle.std.proofs.Common.{◌≡◌, ℕ, Bool, true, false, cond, ltb, List, length, Result, inr, sym, refl, ap, subst, arith, ltb-true, ltb-false}
use Rattle.refusals.specs.declared.reason.Reason.TheVariants as Reason'
use Rattle.refusals.specs.declared.refusal.Refusal.{Refusal}
use Rattle.refusals.specs.Turns.{Turn, accepted_turn, refused_turn}
use Rattle.refusals.specs.Refusals.{reason_number, refusal_at}
use Rattle.refusals.specs.Choice.{Decides, Judged, refusal_of}
use Rattle.refusals.proofs.Choosing.{decides, same_refusal}
use Rattle.vocabulary.specs.Entities.{reseed}
use Rattle.vocabulary.specs.Refusals.{name_refusal, missing_name_refusal}
use Rattle.vocabulary.specs.Fitting.{NamingFits}
use Rattle.vocabulary.proofs.Judging.{naming_judged}
use Rattle.book.specs.declared.book.Book.{Book}
use Rattle.book.specs.Contents.{Contents, reforce}
use Rattle.book.specs.Calls.{contents, naming_call, seeding_call, forcing_call}
use Rattle.book.specs.Refusals.{missing_axiom_refusal}
use Rattle.book.specs.Fitting.{SeedingFits, ForcingFits}

-- the only refusal that fits decides
sole_decides : (Fits : Refusal → Type 0) (r : Refusal) → Fits r → ((s : Refusal) → Fits s → s ≡ r) → Decides Fits r
sole_decides Fits r f only = decides Fits r f (λ s g. inr (only s g))

-- a call on a book that gives its definition's answer is judged as the definition is
pub call_judged : {A F : Type 0} (Fits : Contents → Refusal → Type 0) (told : F → Refusal) (call : Contents → Turn Contents (Result A F)) (r : Result A F) (inside seen : Book) → inside ≡ seen → r ≡ (call (contents inside)).answer → ((b : Contents) → Judged (Fits b) (refusal_of told (call b).answer)) → Judged (Fits (contents seen)) (refusal_of told r)
call_judged Fits told call r inside seen same e law =
    subst (λ (k : Book). Judged (Fits (contents k)) (refusal_of told r)) same
    (subst (λ a. Judged (Fits (contents inside)) (refusal_of told a)) (sym e) (law (contents inside)))

module _ (b : Contents) where
  pub naming_call_judged : (kind : ℕ) (label : List ℕ) → Judged (NamingFits b.names kind label) (refusal_of name_refusal (naming_call b kind label).answer)
  naming_call_judged kind label = naming_judged b.names kind label

  pub seeding_call_judged : (n : ℕ) (on : Bool) → Judged (SeedingFits b n) (refusal_of missing_name_refusal (seeding_call b n on).answer)
  seeding_call_judged n on = go (ltb n (length b.names)) refl
    where
      go : (there : Bool) → ltb n (length b.names) ≡ there → Judged (SeedingFits b n) (refusal_of missing_name_refusal (cond there (accepted_turn {S = Contents} (record { names = reseed b.names n on; axioms = b.axioms }) (tt {0})) (refused_turn b (record {}))).answer)
      go true e = λ s f. let l = ltb-true n (length b.names) e in let m = f.missing in omega arith
      go false e = sole_decides (SeedingFits b n) (refusal_at Reason'.WrongName 0) (record { missing = ltb-false n (length b.names) e; reason = refl; place = refl }) (λ s f. same_refusal s (refusal_at Reason'.WrongName 0) (ap reason_number f.reason) f.place)

  pub forcing_call_judged : (k : ℕ) (on : Bool) → Judged (ForcingFits b k) (refusal_of missing_axiom_refusal (forcing_call b k on).answer)
  forcing_call_judged k on = go (ltb k (length b.axioms)) refl
    where
      go : (there : Bool) → ltb k (length b.axioms) ≡ there → Judged (ForcingFits b k) (refusal_of missing_axiom_refusal (cond there (accepted_turn {S = Contents} (record { names = b.names; axioms = reforce b.axioms k on }) (tt {0})) (refused_turn b (record {}))).answer)
      go true e = λ s f. let l = ltb-true k (length b.axioms) e in let m = f.missing in omega arith
      go false e = sole_decides (ForcingFits b k) (refusal_at Reason'.NoSuchAxiom 0) (record { missing = ltb-false k (length b.axioms) e; reason = refl; place = refl }) (λ s f. same_refusal s (refusal_at Reason'.NoSuchAxiom 0) (ap reason_number f.reason) f.place)
