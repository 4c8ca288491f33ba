-- Every place that a reading reaches or blames lies within the body, or at its end.
use Rattle.std.proofs.Common.{◌≡◌, ℕ, zero, suc, ◌≤◌, Bool, true, false, cond, List, length, Some, None, Option, refl, subst, arith}
use Rattle.std.proofs.lemmas.Bool.{ltb-true}
use Rattle.vocabulary.specs.declared.kind.Kind.{Kind}
use Rattle.vocabulary.specs.declared.kind.Kind.TheVariants as Kind'
use Rattle.vocabulary.specs.Entities.{Entity}
use Rattle.terms.specs.declared.«axiom».AxiomKind.{AxiomKind}
use Rattle.terms.specs.declared.«axiom».AxiomKind.TheVariants.{Inclusion, Equivalence, RoleInclusion, Transitive, Functional, ConceptAssertion, RoleAssertion}
use Rattle.terms.specs.declared.code.Code.{Code}
use Rattle.terms.specs.declared.code.Code.TheVariants.{Nothing, Everything, Concept, Just, Not, And, Exists, AtLeast}
use Rattle.terms.specs.declared.fault.ItemFault.{ItemFault}
use Rattle.terms.specs.Forms.{Form}
use Rattle.terms.specs.Reading.{Outcome, got, bad, next, value_or_fault, read_byte, read_number, read_code, read_direction, read_count, read_name, read_role, read_rest, read_term, read_whole, read_axiom}
use Rattle.terms.specs.Refusals.{item_refusal}

-- the place after the value, or the place of the faulty item, is at most n
unfoldable pub Inside : {X : Type 0} → ℕ → Outcome X → Type 0
Inside n (got x end) = end ≤ n
Inside n (bad fault) = (item_refusal fault).place ≤ n

-- a value that is given at once
pub inside_got : {X : Type 0} (n : ℕ) (x : X) (end : ℕ) → end ≤ n → Inside n (got x end)
unfolding Inside
inside_got n x end h = h

-- the place of a fault that a reading gives
pub inside_fault : {X : Type 0} (n : ℕ) (o : Outcome X) (fault : ItemFault) → Inside n o → o ≡ bad fault → (item_refusal fault).place ≤ n
unfolding Inside
inside_fault n o fault h e = subst (Inside n) e h

-- one after the other
pub inside_next : {X Y : Type 0} (n : ℕ) (o : Outcome X) (more : X → ℕ → Outcome Y) → Inside n o → ((x : X) (mid : ℕ) → mid ≤ n → Inside n (more x mid)) → Inside n (next o more)
unfolding Inside
inside_next n (got x mid) more h k = k x mid h
inside_next n (bad fault) more h k = h

-- one after the other, where nothing more is read
pub inside_last : {X Y : Type 0} (n : ℕ) (o : Outcome X) (f : X → Y) → Inside n o → Inside n (next o (λ x end. got (f x) end))
inside_last n o f h = inside_next n o _ h (λ x end l. inside_got n (f x) end l)

-- an item that must stand for a value
pub inside_known : {X : Type 0} (n : ℕ) (o : Option X) (fault : ItemFault) (end : ℕ) → end ≤ n → (item_refusal fault).place ≤ n → Inside n (value_or_fault o fault end)
unfolding Inside
inside_known n (Some x) fault end h l = h
inside_known n None fault end h l = l

-- a value that must pass a test
pub inside_cond : {X : Type 0} (n : ℕ) (b : Bool) (x : X) (end : ℕ) (fault : ItemFault) → (b ≡ true → end ≤ n) → (item_refusal fault).place ≤ n → Inside n (cond b (got x end) (bad fault))
unfolding Inside
inside_cond n true x end fault h l = h refl
inside_cond n false x end fault h l = l

module _ (body : List ℕ) where
  -- reading with `r` from any place of the body, or its end, stays inside
  abbrev Stays : {X : Type 0} → (ℕ → Outcome X) → Type 0
  Stays r = (at : ℕ) → at ≤ length body → Inside (length body) (r at)

  byte_stays : (start at : ℕ) → start ≤ length body → Inside (length body) (read_byte body start at)
  byte_stays start at h =
      inside_cond _ _ _ _ _ (λ e. let l = ltb-true at (length body) e in omega arith) h

  number_stays : Stays (read_number body)
  number_stays at h =
      inside_next _ _ _ (byte_stays at at h) (λ low mid l.
      inside_last _ _ _ (byte_stays at mid h))

  code_stays : Stays (read_code body)
  code_stays at h = inside_next _ _ _ (byte_stays at at h) (λ b end l. inside_known _ _ _ end l h)

  direction_stays : Stays (read_direction body)
  direction_stays at h = inside_next _ _ _ (byte_stays at at h) (λ b end l. inside_known _ _ _ end l h)

  count_stays : Stays (read_count body)
  count_stays at h = inside_next _ _ _ (number_stays at h) (λ n end l. inside_known _ _ _ end l h)

  module _ (names : List Entity) where
    name_stays : (k : Kind) → Stays (read_name body names k)
    name_stays k at h = inside_next _ _ _ (number_stays at h) (λ n end l. inside_cond _ _ _ _ _ (λ e. l) h)

    role_stays : Stays (read_role body names)
    role_stays at h =
        inside_next _ _ _ (direction_stays at h) (λ d mid l.
        inside_last _ _ _ (name_stays Kind'.Role mid l))

    rest_stays : (inner : ℕ → Outcome Form) → Stays inner → (c : Code) → Stays (read_rest body names inner c)
    rest_stays inner s Nothing at h = inside_got _ _ _ h
    rest_stays inner s Everything at h = inside_got _ _ _ h
    rest_stays inner s Concept at h = inside_last _ _ _ (name_stays Kind'.Concept at h)
    rest_stays inner s Just at h = inside_last _ _ _ (name_stays Kind'.Individual at h)
    rest_stays inner s Not at h = inside_last _ _ _ (s at h)
    rest_stays inner s And at h =
        inside_next _ _ _ (s at h) (λ f mid l.
        inside_last _ _ _ (s mid l))
    rest_stays inner s Exists at h =
        inside_next _ _ _ (role_stays at h) (λ r mid l.
        inside_last _ _ _ (s mid l))
    rest_stays inner s AtLeast at h =
        inside_next _ _ _ (count_stays at h) (λ n mid l.
        inside_next _ _ _ (role_stays mid l) (λ r far m.
        inside_last _ _ _ (s far m)))

    -- a term that is read from a place of the body, or its end, stays inside
    pub term_stays : (levels : ℕ) → Stays (read_term body names levels)
    unfolding Inside
    term_stays zero at h = h
    term_stays (suc levels) at h =
        inside_next _ _ _ (code_stays at h) (λ c mid l.
        rest_stays (read_term body names levels) (term_stays levels) c mid l)

    whole_stays : Stays (read_whole body names)
    unfolding read_whole
    whole_stays at h = term_stays 24 at h

    -- an axiom that is read from the body's beginning stays inside
    pub axiom_stays : (k : AxiomKind) → Inside (length body) (read_axiom body names k)
    axiom_stays Inclusion =
        inside_next _ _ _ (whole_stays 0 (omega arith)) (λ f mid l.
        inside_last _ _ _ (whole_stays mid l))
    axiom_stays Equivalence =
        inside_next _ _ _ (whole_stays 0 (omega arith)) (λ f mid l.
        inside_last _ _ _ (whole_stays mid l))
    axiom_stays RoleInclusion =
        inside_next _ _ _ (role_stays 0 (omega arith)) (λ r mid l.
        inside_last _ _ _ (role_stays mid l))
    axiom_stays Transitive = inside_last _ _ _ (name_stays Kind'.Role 0 (omega arith))
    axiom_stays Functional = inside_last _ _ _ (role_stays 0 (omega arith))
    axiom_stays ConceptAssertion =
        inside_next _ _ _ (name_stays Kind'.Individual 0 (omega arith)) (λ a mid l.
        inside_last _ _ _ (whole_stays mid l))
    axiom_stays RoleAssertion =
        inside_next _ _ _ (name_stays Kind'.Role 0 (omega arith)) (λ r mid l.
        inside_next _ _ _ (name_stays Kind'.Individual mid l) (λ a far m.
        inside_last _ _ _ (name_stays Kind'.Individual far m)))

-- the place of a faulty item lies within the body, or at its end
pub fault_within : (body : List ℕ) (names : List Entity) (k : AxiomKind) (e : ItemFault) → read_axiom body names k ≡ bad e → (item_refusal e).place ≤ length body
fault_within body names k e h = inside_fault (length body) (read_axiom body names k) e (axiom_stays body names k) h
