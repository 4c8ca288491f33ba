-- What a record was that a book took, and what it did: a name's, a seed's or an axiom's as it is written.
use Rattle.std.proofs.Common.{◌≡◌, ℕ, ◌<◌, true, ltb, List, [], ◌∷◌, length, get_or, zero, suc, Some, Result, sym, refl, ap, ◌∙◌, subst, ap₂, arith, ltb-true}
use Rattle.std.proofs.lemmas.List.{take_all}
use Rattle.std.proofs.lemmas.Bool.{and_parts}
use Rattle.vocabulary.specs.declared.kind.Kind.{Kind}
use Rattle.vocabulary.specs.declared.kind.Kind.TheVariants.{Concept, Role, Individual}
use Rattle.vocabulary.specs.Entities.{reseed}
use Rattle.vocabulary.specs.Kinds.{kind_of, code_of}
use Rattle.vocabulary.specs.Naming.{new_name}
use Rattle.refusals.specs.Turns.{Turn, accepted_turn}
use Rattle.terms.specs.declared.«axiom».AxiomKind.{AxiomKind}
use Rattle.terms.specs.Codes.{kind_number}
use Rattle.terms.specs.Forms.{Rule}
use Rattle.terms.specs.Numbers.{number_of, number_at, two_bytes}
use Rattle.terms.proofs.Numbers.{chosen, none_chosen, two_bytes_are}
use Rattle.terms.proofs.SameBytes.{same_bytes}
use Rattle.book.specs.Contents.{Contents}
use Rattle.book.specs.Calls.{with_axiom}
use Rattle.records.specs.declared.kind.RecordKind.{RecordKind}
use Rattle.records.specs.declared.kind.RecordKind.TheVariants as Kind'
use Rattle.records.specs.Files.{Entry}
use Rattle.records.specs.Kinds.{name_kind, seed_kind, record_number}
use Rattle.records.specs.Taking.{IsNaming, IsFiling, IsSeeding, IsAskedCall, IsTaken}
use Rattle.records.proofs.Asked.{refused_not}
use Rattle.part.specs.Order.{seed_number}
use Rattle.records.specs.Files.{all_bytes}
use Rattle.part.specs.Parts.{name_entry, seed_entry, axiom_entry}
use Rattle.part.proofs.Answered.{with_name, Naming, Adding, Seeding, made, not_made, naming_way, adding_way, seeding_way}

-- each of a list of bytes is one, and so is what is read past its end
pub byte_at : (xs : List ℕ) → all_bytes xs ≡ true → (i : ℕ) → get_or xs i 0 < 256
byte_at [] h i = omega arith
byte_at (x ∷ xs) h zero = ltb-true x 256 (and_parts (ltb x 256) _ h).0
byte_at (x ∷ xs) h (suc i) = byte_at xs (and_parts (ltb x 256) _ h).1 i

-- ---- the number of a kind

kind_byte : (n : ℕ) (k : Kind) → kind_of n ≡ Some k → n ≡ code_of k
kind_byte n =
    let more = chosen code_of n in
    more 0 Concept _ refl (more 1 Role _ refl (more 2 Individual _ refl (none_chosen code_of n)))

-- ---- what a record was

pub data Was (b : Contents) (e : Entry) (c : Contents) : Type 0 where
  a_name : (k : Kind) (l : List ℕ) → e ≡ name_entry (new_name k l) → c ≡ with_name b k l → Was b e c
  a_seed : seed_number e < length b.names → e ≡ seed_entry (seed_number e) → c ≡ record { names = reseed b.names (seed_number e) true; axioms = b.axioms } → Was b e c
  an_axiom : (r : Rule) → e ≡ axiom_entry r → c ≡ with_axiom b r → Was b e c

-- a call was accepted in one way
same_state : {A F : Type 0} {turn : Turn Contents (Result A F)} {c d : Contents} {x y : A} → turn ≡ accepted_turn c x → turn ≡ accepted_turn d y → c ≡ d
same_state h i = ap (λ t. t.state) (sym h ∙ i)

module _ (b c : Contents) (e : Entry) where
  -- the record, with its kind and its body written in another way
  entry_is : (kind : ℕ) (body : List ℕ) → e.kind ≡ kind → e.body ≡ body → e ≡ record { kind = kind; body = body }
  entry_is kind body k l = ap₂ (λ x y. record { kind = x; body = y }) k l

  name_was : e.kind ≡ name_kind → IsNaming b e.body c → Was b e c
  name_was is n = go (naming_way b n.kind n.label)
    where
      go : Naming b n.kind n.label → Was b e c
      go (made k can h) =
          a_name k n.label (entry_is name_kind _ is (n.is_body ∙ ap (λ x. x ∷ n.label) (kind_byte n.kind k can.kind_is))) (same_state n.accepted h)
      go (not_made f h) = absurd (refused_not _ _ _ _ (sym h ∙ n.accepted))

  seed_was : all_bytes e.body ≡ true → e.kind ≡ seed_kind → IsSeeding b e.body c → Was b e c
  seed_was bytes is s = go (seeding_way b (number_of s.low s.high) true)
    where
      number : seed_number e ≡ number_of s.low s.high
      number = ap (λ l. number_at l 0) s.is_body

      written : e.body ≡ two_bytes (seed_number e)
      written =
          let low : s.low < 256 = byte_at (s.low ∷ s.high ∷ []) (ap all_bytes (sym s.is_body) ∙ bytes) 0 in
          s.is_body ∙ sym (ap two_bytes number ∙ two_bytes_are s.low s.high low)

      go : Seeding b (number_of s.low s.high) true → Was b e c
      go (made inside h) =
          a_seed (subst (λ n. n < length b.names) (sym number) inside) (entry_is seed_kind _ is written)
          (same_state s.accepted h ∙ ap (λ n. record { names = reseed b.names n true; axioms = b.axioms }) (sym number))
      go (not_made f h) = absurd (refused_not _ _ _ _ (sym h ∙ s.accepted))

  axiom_was : all_bytes e.body ≡ true → (k : AxiomKind) → e.kind ≡ kind_number k → IsFiling b e.body c k → Was b e c
  axiom_was bytes k is f = go (adding_way b k e.body)
    where
      go : Adding b k e.body → Was b e c
      go (made r can h) =
          let same = same_bytes e.body b.names k r can.end (byte_at e.body bytes) can.read in
          an_axiom r (entry_is _ _ (is ∙ ap kind_number (sym same.1)) (sym (same.0 ∙ take_all can.end e.body can.whole))) (same_state f.accepted h)
      go (not_made g h) = absurd (refused_not _ _ _ _ (sym h ∙ f.accepted))

  -- a record of bytes that was taken
  pub was : all_bytes e.body ≡ true → IsTaken b e c → Was b e c
  was bytes t = go t.kind (sym t.known) t.call
    where
      go : (k : RecordKind) → e.kind ≡ record_number k → IsAskedCall b e.body c k → Was b e c
      go Kind'.Name is call = name_was is call
      go (Kind'.Axiom k) is call = axiom_was bytes k is call
      go Kind'.Seed is call = seed_was bytes is call
