-- A record that is refused changes nothing, and the place of its fault lies within its body or right behind it.
use Rattle.std.proofs.Common.{◌≡◌, ℕ, ◌+◌, ◌≤◌, Bool, true, false, cond, ltb, leb, List, [], ◌∷◌, ◌++◌, length, Some, None, Ok, Err, Option, Result, sym, refl, ap, ◌∙◌, subst, arith, ltb-true}
use Rattle.vocabulary.specs.declared.fault.NameFault.{NameFault}
use Rattle.vocabulary.specs.declared.fault.NameFault.TheVariants.{BadKind, LabelLength, LabelByte, LabelTaken, TableFull}
use Rattle.vocabulary.specs.declared.fault.NoSuchName.{NoSuchName}
use Rattle.vocabulary.specs.declared.kind.Kind.{Kind}
use Rattle.vocabulary.specs.Entities.{Entity, kind_or_fault, label_or_fault, reseed}
use Rattle.vocabulary.specs.Naming.{naming, naming_turn, new_name}
use Rattle.vocabulary.specs.Refusals.{name_refusal}
use Rattle.refusals.specs.Turns.{Turn, refused_turn, accepted_turn}
use Rattle.terms.specs.declared.«axiom».AxiomKind.{AxiomKind}
use Rattle.terms.specs.declared.fault.ItemFault.TheVariants as Item'
use Rattle.terms.specs.Forms.{Rule}
use Rattle.terms.specs.Numbers.{number_of}
use Rattle.terms.specs.Reading.{Outcome, got, bad, read_axiom}
use Rattle.terms.proofs.Within.{fault_within}
use Rattle.codec.specs.Bodies.{longest_body}
use Rattle.book.specs.declared.fault.AxiomFault.{AxiomFault}
use Rattle.book.specs.declared.fault.AxiomFault.TheVariants as Axiom'
use Rattle.book.specs.Contents.{Contents}
use Rattle.book.specs.Calls.{with_fault, naming_call, seeding_call, axiom_call, items_call, with_axiom}
use Rattle.book.specs.Refusals.{axiom_refusal}
use Rattle.records.specs.declared.fault.RecordFault.{RecordFault}
use Rattle.records.specs.declared.fault.RecordFault.TheVariants as Record'
use Rattle.records.specs.declared.fault.SeedFault.{SeedFault}
use Rattle.records.specs.declared.fault.SeedFault.TheVariants.{Item, LeftOver}
use Rattle.records.specs.declared.kind.RecordKind.{RecordKind}
use Rattle.records.specs.declared.kind.RecordKind.TheVariants as Kind'
use Rattle.records.specs.Faults.{seed_refusal, place_in}
use Rattle.records.specs.Files.{Entry, head_length}
use Rattle.records.specs.Kinds.{record_kind_of}
use Rattle.records.specs.Loading.{Taking, without_value, taken_as, name_turn, missing_name, seed_call, seed_turn, body_turn, short_turn, known_turn, record_turn}
use Rattle.records.proofs.Asked.{read_any_name-two}

-- a fault's place is at most n, and nothing is changed
pub record IsNear {S A F : Type 0} (place : F → ℕ) (n : ℕ) (s : S) (t : Turn S (Result A F)) : Type 0 where
  pub near : (f : F) → t.answer ≡ Err f → place f ≤ n
  pub same : (f : F) → t.answer ≡ Err f → t.state ≡ s

-- a refusal, and an acceptance
refuses_near : {S A F : Type 0} (place : F → ℕ) (n : ℕ) (s : S) (fault : F) → place fault ≤ n → IsNear {A = A} place n s (refused_turn s fault)
refuses_near place n s fault h = record {
  near = λ f e. let is : fault ≡ f = cc in subst (λ g. place g ≤ n) is h;
  same = λ f e. refl;
}

accepts_near : {S A F : Type 0} (place : F → ℕ) (n : ℕ) (s t : S) (x : A) → IsNear {F = F} place n s (accepted_turn t x)
accepts_near place n s t x = record { near = λ f e. absurd (cc); same = λ f e. absurd (cc) }

-- a test that refuses, or goes on
test_near : {S A F : Type 0} (place : F → ℕ) (n : ℕ) (s : S) (fault : F) (t : Bool) (turn : Turn S (Result A F)) → (t ≡ true → place fault ≤ n) → IsNear place n s turn → IsNear place n s (cond t (refused_turn s fault) turn)
test_near place n s fault true turn h i = refuses_near place n s fault (h refl)
test_near place n s fault false turn h i = i

-- told at the layer above
lifted_near : {A F G : Type 0} (up : F → G) (place : F → ℕ) (higher : G → ℕ) (n m : ℕ) → ((f : F) → place f ≤ n → higher (up f) ≤ m) → (b : Contents) (t : Turn Contents (Result A F)) → IsNear place n b t → IsNear higher m b (taken_as up t)
lifted_near {A} {F} {G} up place higher n m more b t i = go t.answer refl
  where
    go : (r : Result A F) → t.answer ≡ r → IsNear higher m b (taken_as up t)
    go (Ok x) e = record {
      near = λ f h. absurd (let told : Ok tt ≡ Err f = sym (ap (λ r. without_value (with_fault up r)) e) ∙ h in cc);
      same = λ f h. absurd (let told : Ok tt ≡ Err f = sym (ap (λ r. without_value (with_fault up r)) e) ∙ h in cc);
    }
    go (Err g) e = record {
      near = λ f h. let told : Err (up g) ≡ Err f = sym (ap (λ r. without_value (with_fault up r)) e) ∙ h in let is : up g ≡ f = cc in subst (λ x. higher x ≤ m) is (more g (i.near g e));
      same = λ f h. i.same g e;
    }

-- ---- what a body asks for

abbrev name_place : NameFault → ℕ
name_place f = (name_refusal f).place

name_start : (n : ℕ) (f : NameFault) → name_place f ≤ n
name_start n BadKind = omega arith
name_start n LabelLength = omega arith
name_start n LabelByte = omega arith
name_start n LabelTaken = omega arith
name_start n TableFull = omega arith

naming_near : (n : ℕ) (names : List Entity) (kind : ℕ) (label : List ℕ) → IsNear name_place n names (naming names kind label)
unfolding naming
naming_near n names kind label = go (kind_or_fault kind) (label_or_fault label)
  where
    go : (k : Result Kind NameFault) (l : Result (List ℕ) NameFault) → IsNear name_place n names (naming_turn names k l)
    go (Err f) l = refuses_near name_place n names f (name_start n f)
    go (Ok k) (Err f) = refuses_near name_place n names f (name_start n f)
    go (Ok k) (Ok l) =
        test_near name_place n names LabelTaken _ _ (λ e. name_start n LabelTaken)
        (test_near name_place n names TableFull _ _ (λ e. name_start n TableFull) (accepts_near name_place n names (names ++ new_name k l ∷ []) _))

name_near : (n : ℕ) (b : Contents) (body : List ℕ) → IsNear name_place n b (name_turn b body)
name_near n b [] = refuses_near name_place n b BadKind (name_start n BadKind)
name_near n b (kind ∷ label) =
    let i = naming_near n b.names kind label in
    lifted_near (λ f. f) name_place name_place n n (λ f h. h) b (naming_call b kind label) (record {
      near = i.near;
      same = λ f e. ap (λ names. record { names = names; axioms = b.axioms }) (i.same f e);
    })

abbrev axiom_place : AxiomFault → ℕ
axiom_place f = (axiom_refusal f).place

axiom_near : (b : Contents) (kind : AxiomKind) (body : List ℕ) → IsNear axiom_place (length body) b (axiom_call b kind body)
unfolding axiom_call
axiom_near b kind body = go (read_axiom body b.names kind) refl
  where
    go : (o : Outcome Rule) → read_axiom body b.names kind ≡ o → IsNear axiom_place (length body) b (items_call b (length body) o)
    go (bad fault) h = refuses_near axiom_place (length body) b (Axiom'.Item fault) (fault_within body b.names kind fault h)
    go (got r end) h =
        test_near axiom_place (length body) b (Axiom'.LeftOver end) (ltb end (length body)) _ (λ e. let l = ltb-true end (length body) e in omega arith)
        (test_near axiom_place (length body) b Axiom'.AxiomsFull _ _ (λ e. omega arith)
        (test_near axiom_place (length body) b Axiom'.BytesFull _ _ (λ e. omega arith) (accepts_near axiom_place (length body) b (with_axiom b r) _)))

abbrev seed_place : SeedFault → ℕ
seed_place f = (seed_refusal f).place

seeding_near : (n : ℕ) (b : Contents) (m : ℕ) → IsNear (λ (f : NoSuchName). 0) n b (seeding_call b m true)
seeding_near n b m = go (ltb m (length b.names))
  where
    go : (t : Bool) → IsNear (λ (f : NoSuchName). 0) n b (cond t (accepted_turn {A = Unit {0}} (record { names = reseed b.names m true; axioms = b.axioms }) tt) (refused_turn b (record {})))
    go true = accepts_near _ n b (record { names = reseed b.names m true; axioms = b.axioms }) tt
    go false = refuses_near _ n b (record {}) (omega arith)

seed_near : (b : Contents) (body : List ℕ) → IsNear seed_place (length body) b (seed_turn b body)
seed_near b [] = refuses_near seed_place 0 b (Item (Item'.CutShort 0)) (omega arith)
seed_near b (x ∷ []) = refuses_near seed_place (length (x ∷ [])) b (Item (Item'.CutShort 0)) (omega arith)
seed_near b (low ∷ high ∷ rest) =
    subst (λ o. IsNear seed_place len b (seed_call b len o)) (sym (read_any_name-two low high rest b.names)) (go (ltb (number_of low high) (length b.names)))
  where
    len : ℕ
    len = length (low ∷ high ∷ rest)

    go : (t : Bool) → IsNear seed_place len b (seed_call b len (cond t (got (record { 0 = number_of low high }) 2) (bad (Item'.WrongName 0))))
    go false = refuses_near seed_place len b (Item (Item'.WrongName 0)) (omega arith)
    go true =
        test_near seed_place len b (LeftOver 2) (ltb 2 len) _ (λ e. omega arith)
        (lifted_near missing_name (λ f. 0) seed_place len len (λ f h. omega arith) b (seeding_call b (number_of low high) true) (seeding_near len b (number_of low high)))

-- ---- a record

module _ (at : ℕ) (b : Contents) where
  abbrev Near : ℕ → Taking RecordFault → Type 0
  Near n t = IsNear (place_in at) (at + head_length + n) b t

  body_near : (kind : RecordKind) (body : List ℕ) → Near (length body) (body_turn b kind body)
  body_near Kind'.Name body = lifted_near Record'.Name name_place (place_in at) (length body) _ (λ f h. omega arith) b (name_turn b body) (name_near (length body) b body)
  body_near (Kind'.Axiom kind) body = lifted_near Record'.Axiom axiom_place (place_in at) (length body) _ (λ f h. omega arith) b (axiom_call b kind body) (axiom_near b kind body)
  body_near Kind'.Seed body = lifted_near Record'.Seed seed_place (place_in at) (length body) _ (λ f h. omega arith) b (seed_turn b body) (seed_near b body)

  pub record_near : (e : Entry) → Near (length e.body) (record_turn b e)
  record_near e = known (record_kind_of e.kind)
    where
      short : (kind : RecordKind) (t : Bool) → Near (length e.body) (short_turn b kind (cond t (Some e.body) None))
      short kind false = refuses_near (place_in at) _ b Record'.BodyTooLong (omega arith)
      short kind true = body_near kind e.body

      known : (o : Option RecordKind) → Near (length e.body) (known_turn b o e.body)
      known None = refuses_near (place_in at) _ b Record'.UnknownKind (omega arith)
      known (Some kind) = short kind (leb (length e.body) longest_body)
