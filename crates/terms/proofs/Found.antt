-- What a reading gives stands in the body byte for byte, and is well formed.
use Rattle.std.proofs.Common.{◌≡◌, ℕ, zero, suc, ◌<◌, ◌≤◌, Bool, true, false, cond, leb, List, [], ◌∷◌, length, get_or, Some, None, refl, arith}
use Rattle.std.proofs.lemmas.Bool.{ltb-true, leb-true, le-leb, and_from}
use Rattle.vocabulary.specs.declared.kind.Kind.{Kind}
use Rattle.vocabulary.specs.declared.kind.Kind.TheVariants as Kind'
use Rattle.vocabulary.specs.declared.name.NameId.{NameId}
use Rattle.vocabulary.specs.Entities.{Entity}
use Rattle.terms.specs.declared.«axiom».AxiomKind.{AxiomKind}
use Rattle.terms.specs.declared.«axiom».AxiomKind.TheVariants.{Inclusion, Equivalence, RoleInclusion, Transitive, Functional, ConceptAssertion, RoleAssertion}
use Rattle.terms.specs.declared.code.Code.{Code}
use Rattle.terms.specs.declared.code.Code.TheVariants.{Nothing, Everything, Concept, Just, Not, And, Exists, AtLeast}
use Rattle.terms.specs.declared.code.Direction.{Direction}
use Rattle.terms.specs.declared.code.Direction.TheVariants.{Forward, Inverse}
use Rattle.terms.specs.declared.term.RoleItem.{RoleItem}
use Rattle.terms.specs.Codes.{code_of, code_byte, direction_of, direction_byte, count_of}
use Rattle.terms.specs.Forms.{Form, Rule, nesting}
use Rattle.terms.specs.Reading.{Outcome, read_byte, read_number, read_code, read_direction, read_count, read_name, role_item, read_role, read_rest, read_term, read_whole, read_axiom}
use Rattle.terms.specs.Writing.{name_bytes, role_bytes, term_bytes, body_bytes, rule_kind}
use Rattle.terms.specs.Numbers.{two_bytes}
use Rattle.terms.specs.WellFormed.{name_fits, role_fits, numbers_fit, term_fits, well_formed}
use Rattle.terms.proofs.Numbers.{chosen, none_chosen, two_bytes_are}
use Rattle.terms.proofs.Steps.{Yields, yields_each, yields_got, yields_next, yields_known, yields_cond}
use Rattle.terms.proofs.Stands.{Stands, stands_byte, stands_join}

code_byte_is : (b : ℕ) (c : Code) → code_of b ≡ Some c → b ≡ code_byte c
code_byte_is b =
    let more = chosen code_byte b in
    more 0 Nothing _ refl
    (more 1 Everything _ refl
    (more 2 Concept _ refl
    (more 3 Just _ refl
    (more 4 Not _ refl
    (more 5 And _ refl
    (more 6 Exists _ refl
    (more 7 AtLeast _ refl
    (none_chosen code_byte b))))))))

direction_byte_is : (b : ℕ) (d : Direction) → direction_of b ≡ Some d → b ≡ direction_byte d
direction_byte_is b =
    let more = chosen direction_byte b in
    more 0 Forward _ refl (more 1 Inverse _ refl (none_chosen direction_byte b))

-- a count that is read is the number that stands there
count_same : (n m : ℕ) → count_of n ≡ Some m → (n ≡ m) × (1 ≤ m)
count_same n m = go (leb 1 n) refl
  where
    go : (t : Bool) → leb 1 n ≡ t → cond t (Some n) None ≡ Some m → (n ≡ m) × (1 ≤ m)
    go true e h = let s : n ≡ m = cc in let l = leb-true 1 n e in (s, omega arith)
    go false e h = absurd (let z : ◌≡◌ {A = ℕ} 0 1 = cc in omega arith)

module _ (body : List ℕ) (bytes : (i : ℕ) → get_or body i 0 < 256) where
  abbrev ByteFound : ℕ → ℕ → ℕ → Type 0
  ByteFound at b end = Stands body at (b ∷ []) end × (b < 256)

  byte_found : (start at : ℕ) → Yields (ByteFound at) (read_byte body start at)
  byte_found start at = yields_cond (ByteFound at) _ _ _ _ (λ e. (stands_byte body at (ltb-true at (length body) e), bytes at))

  abbrev NumberFound : ℕ → ℕ → ℕ → Type 0
  NumberFound at n end = Stands body at (two_bytes n) end × (n ≤ 65535)

  number_found : (at : ℕ) → Yields (NumberFound at) (read_number body at)
  number_found at =
      yields_next (ByteFound at) _ _ _ (byte_found at at) (λ low mid s.
      yields_next (ByteFound mid) _ _ _ (byte_found at mid) (λ high end t.
      yields_got (NumberFound at) _ _
      (rw (two_bytes_are low high s.1) (stands_join body at mid end _ _ s.0 t.0), omega arith)))

  abbrev CodeFound : ℕ → Code → ℕ → Type 0
  CodeFound at c end = Stands body at (code_byte c ∷ []) end

  code_found : (at : ℕ) → Yields (CodeFound at) (read_code body at)
  code_found at =
      yields_next (ByteFound at) _ _ _ (byte_found at at) (λ b end s.
      yields_known (CodeFound at) _ _ end (λ c e. rw (← code_byte_is b c e) s.0))

  abbrev DirectionFound : ℕ → Direction → ℕ → Type 0
  DirectionFound at d end = Stands body at (direction_byte d ∷ []) end

  direction_found : (at : ℕ) → Yields (DirectionFound at) (read_direction body at)
  direction_found at =
      yields_next (ByteFound at) _ _ _ (byte_found at at) (λ b end s.
      yields_known (DirectionFound at) _ _ end (λ d e. rw (← direction_byte_is b d e) s.0))

  abbrev CountFound : ℕ → ℕ → ℕ → Type 0
  CountFound at n end = Stands body at (two_bytes n) end × (n ≤ 65535) × (1 ≤ n)

  count_found : (at : ℕ) → Yields (CountFound at) (read_count body at)
  count_found at =
      yields_next (NumberFound at) _ _ _ (number_found at) (λ n end s.
      yields_known (CountFound at) _ _ _ (λ m e.
      let same = count_same n m e in
      (rw (← same.0) s.0, rw (← same.0) s.1, same.1)))

  module _ (names : List Entity) where
    abbrev NameFound : Kind → ℕ → NameId → ℕ → Type 0
    NameFound k at n end = Stands body at (name_bytes n) end × (name_fits names k n ≡ true)

    name_found : (k : Kind) (at : ℕ) → Yields (NameFound k at) (read_name body names k at)
    name_found k at =
        yields_next (NumberFound at) _ _ _ (number_found at) (λ n end s.
        yields_cond (NameFound k at) _ _ _ _ (λ e. (s.0, e)))

    abbrev RoleFound : ℕ → RoleItem → ℕ → Type 0
    RoleFound at r end = Stands body at (role_bytes r) end × (role_fits names r ≡ true)

    role_made : (at mid end : ℕ) (d : Direction) (r : NameId) → Stands body at (direction_byte d ∷ []) mid → NameFound Kind'.Role mid r end → RoleFound at (role_item body names d r) end
    role_made at mid end Forward r s t = (stands_join body at mid end _ _ s t.0, t.1)
    role_made at mid end Inverse r s t = (stands_join body at mid end _ _ s t.0, t.1)

    role_found : (at : ℕ) → Yields (RoleFound at) (read_role body names at)
    role_found at =
        yields_next _ _ _ _ (direction_found at) (λ d mid s.
        yields_next _ _ _ _ (name_found Kind'.Role mid) (λ r end t.
        yields_got _ _ _ (role_made at mid end d r s t)))

    -- a term that was read where so many levels are allowed
    pub record TermFound (levels at : ℕ) (f : Form) (end : ℕ) : Type 0 where
      pub stands : Stands body at (term_bytes f) end
      pub fits : numbers_fit names f ≡ true
      pub deep : nesting f ≤ levels

    module _ (levels : ℕ) (inner : ℕ → Outcome Form) (inner-found : (at : ℕ) → Yields (TermFound levels at) (inner at)) where
      rest_found : (c : Code) (at mid : ℕ) → Stands body at (code_byte c ∷ []) mid → Yields (TermFound (suc levels) at) (read_rest body names inner c mid)
      rest_found Nothing at mid s = yields_got _ _ _ (record { stands = s; fits = refl; deep = omega arith })
      rest_found Everything at mid s = yields_got _ _ _ (record { stands = s; fits = refl; deep = omega arith })
      rest_found Concept at mid s =
          yields_next _ _ _ _ (name_found Kind'.Concept mid) (λ n end t.
          yields_got _ _ _ (record { stands = stands_join body at mid end _ _ s t.0; fits = t.1; deep = omega arith }))
      rest_found Just at mid s =
          yields_next _ _ _ _ (name_found Kind'.Individual mid) (λ n end t.
          yields_got _ _ _ (record { stands = stands_join body at mid end _ _ s t.0; fits = t.1; deep = omega arith }))
      rest_found Not at mid s =
          yields_next _ _ _ _ (inner-found mid) (λ f end t.
          yields_got _ _ _ (record { stands = stands_join body at mid end _ _ s t.stands; fits = t.fits; deep = omega arith }))
      rest_found And at mid s =
          yields_next _ _ _ _ (inner-found mid) (λ f far t.
          yields_next _ _ _ _ (inner-found far) (λ g end u.
          yields_got _ _ _ (record {
            stands = stands_join body at mid end _ _ s (stands_join body mid far end _ _ t.stands u.stands);
            fits = and_from _ _ t.fits u.fits;
            deep = omega arith;
          })))
      rest_found Exists at mid s =
          yields_next _ _ _ _ (role_found mid) (λ r far t.
          yields_next _ _ _ _ (inner-found far) (λ f end u.
          yields_got _ _ _ (record {
            stands = stands_join body at mid end _ _ s (stands_join body mid far end _ _ t.0 u.stands);
            fits = and_from _ _ t.1 u.fits;
            deep = omega arith;
          })))
      rest_found AtLeast at mid s =
          yields_next _ _ _ _ (count_found mid) (λ n after k.
          yields_next _ _ _ _ (role_found after) (λ r far t.
          yields_next _ _ _ _ (inner-found far) (λ f end u.
          yields_got _ _ _ (record {
            stands = stands_join body at mid end _ _ s (stands_join body mid after end _ _ k.0 (stands_join body after far end _ _ t.0 u.stands));
            fits = and_from _ _ (and_from _ _ (le-leb 1 n k.2) (le-leb n 65535 k.1)) (and_from _ _ t.1 u.fits);
            deep = omega arith;
          }))))

    -- a term that is read stands there, is right in its numbers, and has no more levels than are allowed
    pub term_found : (levels at : ℕ) → Yields (TermFound levels at) (read_term body names levels at)
    unfolding Yields
    term_found zero at = tt
    term_found (suc levels) at =
        yields_next _ _ _ _ (code_found at) (λ c mid s.
        rest_found levels (read_term body names levels) (term_found levels) c at mid s)

    abbrev WholeFound : ℕ → Form → ℕ → Type 0
    WholeFound at f end = Stands body at (term_bytes f) end × (term_fits names f ≡ true)

    whole_found : (at : ℕ) → Yields (WholeFound at) (read_whole body names at)
    unfolding read_whole
    whole_found at = yields_each _ _ _ (term_found 24 at) (λ f end t. (t.stands, and_from _ _ (le-leb (nesting f) 24 t.deep) t.fits))

    -- an axiom that was read
    pub record RuleFound (k : AxiomKind) (r : Rule) (end : ℕ) : Type 0 where
      pub stands : Stands body 0 (body_bytes r) end
      pub kind : rule_kind r ≡ k
      pub fits : well_formed names r ≡ true

    -- an axiom that is read stands at the body's beginning, is of the kind asked for, and is well formed
    pub rule_found : (k : AxiomKind) → Yields (RuleFound k) (read_axiom body names k)
    rule_found Inclusion =
        yields_next _ _ _ _ (whole_found 0) (λ f mid s.
        yields_next _ _ _ _ (whole_found mid) (λ g end t.
        yields_got _ _ _ (record { stands = stands_join body 0 mid end _ _ s.0 t.0; kind = refl; fits = and_from _ _ s.1 t.1 })))
    rule_found Equivalence =
        yields_next _ _ _ _ (whole_found 0) (λ f mid s.
        yields_next _ _ _ _ (whole_found mid) (λ g end t.
        yields_got _ _ _ (record { stands = stands_join body 0 mid end _ _ s.0 t.0; kind = refl; fits = and_from _ _ s.1 t.1 })))
    rule_found RoleInclusion =
        yields_next _ _ _ _ (role_found 0) (λ r mid s.
        yields_next _ _ _ _ (role_found mid) (λ q end t.
        yields_got _ _ _ (record { stands = stands_join body 0 mid end _ _ s.0 t.0; kind = refl; fits = and_from _ _ s.1 t.1 })))
    rule_found Transitive =
        yields_next _ _ _ _ (name_found Kind'.Role 0) (λ r end s.
        yields_got _ _ _ (record { stands = s.0; kind = refl; fits = s.1 }))
    rule_found Functional =
        yields_next _ _ _ _ (role_found 0) (λ r end s.
        yields_got _ _ _ (record { stands = s.0; kind = refl; fits = s.1 }))
    rule_found ConceptAssertion =
        yields_next _ _ _ _ (name_found Kind'.Individual 0) (λ a mid s.
        yields_next _ _ _ _ (whole_found mid) (λ f end t.
        yields_got _ _ _ (record { stands = stands_join body 0 mid end _ _ s.0 t.0; kind = refl; fits = and_from _ _ s.1 t.1 })))
    rule_found RoleAssertion =
        yields_next _ _ _ _ (name_found Kind'.Role 0) (λ r mid s.
        yields_next _ _ _ _ (name_found Kind'.Individual mid) (λ a far t.
        yields_next _ _ _ _ (name_found Kind'.Individual far) (λ b end u.
        yields_got _ _ _ (record {
          stands = stands_join body 0 mid end _ _ s.0 (stands_join body mid far end _ _ t.0 u.0);
          kind = refl;
          fits = and_from _ _ s.1 (and_from _ _ t.1 u.1);
        }))))
