-- Every call of a book keeps what every book keeps.
use Rattle.std.proofs.Common.{◌≡◌, ℕ, zero, suc, ◌<◌, ◌≤◌, Bool, true, false, cond, not, ◌&&◌, List, [], ◌∷◌, length, get_or, Ok, Err, sym, refl, ap, ◌∙◌, subst, arith, length-append}
use Rattle.std.specs.List.{list_all}
use Rattle.std.proofs.lemmas.Bool.{and_from, le-leb}
use Rattle.std.proofs.lemmas.List.{take_all}
use Rattle.std.proofs.lemmas.List.Folds.{list_all-append}
use Rattle.std.proofs.lemmas.List.Sums.{sum_by_push}
use Rattle.vocabulary.specs.declared.fault.NameFault.TheVariants.{LabelLength, LabelByte}
use Rattle.vocabulary.specs.declared.kind.Kind.{Kind}
use Rattle.vocabulary.specs.Entities.{Entity, reseed, label_or_fault}
use Rattle.vocabulary.specs.Labels.{has_label_length, is_graphic_text}
use Rattle.vocabulary.specs.Naming.{new_name}
use Rattle.vocabulary.proofs.Kept.{distinct_push, reseed_distinct, reseed_length}
use Rattle.terms.specs.declared.«axiom».AxiomKind.{AxiomKind}
use Rattle.terms.specs.Forms.{Rule}
use Rattle.terms.specs.WellFormed.{well_formed}
use Rattle.terms.proofs.ReadWell.{read_well}
use Rattle.terms.proofs.SameBytes.{same_bytes}
use Rattle.codec.specs.Bodies.{longest_body}
use Rattle.book.specs.Contents.{Contents, Filing, body_length, sound, reforce}
use Rattle.vocabulary.specs.Limits.{most_names}
use Rattle.book.specs.Limits.{most_axioms, most_bytes}
use Rattle.book.specs.Calls.{empty, with_axiom, axiom_call, naming_call, seeding_call, forcing_call, filing_call}
use Rattle.book.proofs.Keeping.{right_grows, right_reseed, reforce_total, reforce_right}
use Rattle.book.specs.Proper.{Proper, well_labelled}
use Rattle.part.proofs.Answered.{with_name, CanName, CanAdd, Naming, Adding, Filing as Filing', Seeding, Forcing, made, not_made, naming_way, adding_way, filing_way, seeding_way, forcing_way}

-- a book with nothing in it
pub empty_proper : Proper empty
empty_proper = record { labels = refl; apart = refl; few_names = omega arith; right = refl; few_axioms = omega arith; few_bytes = omega arith }

-- ---- names

-- a label that is accepted is one
label_fits : (l : List ℕ) → Ok l ≡ label_or_fault l → (has_label_length l && is_graphic_text l) ≡ true
label_fits l e = go (has_label_length l) (is_graphic_text l) e
  where
    go : (a b : Bool) → Ok l ≡ cond (not a) (Err LabelLength) (cond (not b) (Err LabelByte) (Ok l)) → (a && b) ≡ true
    go false b h = absurd (cc)
    go true false h = absurd (cc)
    go true true h = refl

reseed_labels : (es : List Entity) (n : ℕ) (on : Bool) → list_all well_labelled (reseed es n on) ≡ list_all well_labelled es
reseed_labels [] n on = refl
reseed_labels (e ∷ es) zero on = refl
reseed_labels (e ∷ es) (suc n) on = ap (λ t. well_labelled e && t) (reseed_labels es n on)

reforce_length : (fs : List Filing) (k : ℕ) (on : Bool) → length (reforce fs k on) ≡ length fs
reforce_length [] k on = refl
reforce_length (f ∷ fs) zero on = refl
reforce_length (f ∷ fs) (suc k) on = ap suc (reforce_length fs k on)

module _ {b : Contents} (p : Proper b) where
  with_name_proper : {code : ℕ} (kind : Kind) (label : List ℕ) → CanName b code label kind → Proper (with_name b kind label)
  with_name_proper kind label can =
      let last = new_name kind label in
      let few = can.room in
      record {
        labels = list_all-append well_labelled b.names (last ∷ []) ∙ and_from _ _ p.labels (and_from _ _ (label_fits label can.is_label) refl);
        apart = distinct_push b.names last p.apart can.free;
        few_names = omega (arith, length-append b.names (last ∷ []));
        right = right_grows b.names (last ∷ []) b.axioms p.right;
        few_axioms = p.few_axioms;
        few_bytes = p.few_bytes;
      }

  with_axiom_proper : (kind : AxiomKind) (body : List ℕ) (r : Rule) → ((i : ℕ) → get_or body i 0 < 256) → length body ≤ longest_body → CanAdd b kind body r → Proper (with_axiom b r)
  with_axiom_proper kind body r bytes short can =
      let last : Filing = record { states = r; in_force = true } in
      let same = (same_bytes body b.names kind r can.end bytes can.read).0 ∙ take_all can.end body can.whole in
      let size : body_length last ≡ length body = ap length same in
      let room = can.room in
      let space = can.space in
      let is_sound = and_from (well_formed b.names r) _ (read_well body b.names kind r can.end bytes can.read) (le-leb (body_length last) longest_body (omega arith)) in
      record {
        labels = p.labels;
        apart = p.apart;
        few_names = p.few_names;
        right = list_all-append (sound b.names) b.axioms (last ∷ []) ∙ and_from _ _ p.right (and_from _ _ is_sound refl);
        few_axioms = omega (arith, length-append b.axioms (last ∷ []));
        few_bytes = omega (arith, sum_by_push body_length b.axioms last);
      }

  -- ---- the calls

  pub naming_proper : (code : ℕ) (label : List ℕ) → Proper (naming_call b code label).state
  naming_proper code label = go (naming_way b code label)
    where
      go : Naming b code label → Proper (naming_call b code label).state
      go (made kind can h) = subst (λ t. Proper t.state) (sym h) (with_name_proper kind label can)
      go (not_made f h) = subst (λ t. Proper t.state) (sym h) p

  pub adding_proper : (kind : AxiomKind) (body : List ℕ) → ((i : ℕ) → get_or body i 0 < 256) → length body ≤ longest_body → Proper (axiom_call b kind body).state
  adding_proper kind body bytes short = go (adding_way b kind body)
    where
      go : Adding b kind body → Proper (axiom_call b kind body).state
      go (made r can h) = subst (λ t. Proper t.state) (sym h) (with_axiom_proper kind body r bytes short can)
      go (not_made f h) = subst (λ t. Proper t.state) (sym h) p

  pub filing_proper : (code : ℕ) (body : List ℕ) → ((i : ℕ) → get_or body i 0 < 256) → Proper (filing_call b code body).state
  filing_proper code body bytes = go (filing_way b code body)
    where
      go : Filing' b code body → Proper (filing_call b code body).state
      go (made kind r is short can h) = subst (λ t. Proper t.state) (sym h) (with_axiom_proper kind body r bytes short can)
      go (not_made f h) = subst (λ t. Proper t.state) (sym h) p

  pub seeding_proper : (n : ℕ) (on : Bool) → Proper (seeding_call b n on).state
  seeding_proper n on = go (seeding_way b n on)
    where
      go : Seeding b n on → Proper (seeding_call b n on).state
      go (made inside h) = subst (λ t. Proper t.state) (sym h) (record {
        labels = reseed_labels b.names n on ∙ p.labels;
        apart = reseed_distinct b.names n on ∙ p.apart;
        few_names = subst (λ m. m ≤ most_names) (sym (reseed_length b.names n on)) p.few_names;
        right = right_reseed b.names n on b.axioms p.right;
        few_axioms = p.few_axioms;
        few_bytes = p.few_bytes;
      })
      go (not_made f h) = subst (λ t. Proper t.state) (sym h) p

  pub forcing_proper : (k : ℕ) (on : Bool) → Proper (forcing_call b k on).state
  forcing_proper k on = go (forcing_way b k on)
    where
      go : Forcing b k on → Proper (forcing_call b k on).state
      go (made h) = subst (λ t. Proper t.state) (sym h) (record {
        labels = p.labels;
        apart = p.apart;
        few_names = p.few_names;
        right = reforce_right b.names b.axioms k on ∙ p.right;
        few_axioms = subst (λ m. m ≤ most_axioms) (sym (reforce_length b.axioms k on)) p.few_axioms;
        few_bytes = subst (λ m. m ≤ most_bytes) (sym (reforce_total b.axioms k on)) p.few_bytes;
      })
      go (not_made f h) = subst (λ t. Proper t.state) (sym h) p
