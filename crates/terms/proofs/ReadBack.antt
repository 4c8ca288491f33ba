-- What is written is read back.
use Rattle.std.proofs.Common.{◌≡◌, ℕ, zero, suc, ◌+◌, ◌*◌, ◌/◌, ◌%◌, ◌<◌, ◌≤◌, true, leb, List, [], ◌∷◌, ◌++◌, length, get_or, take, Some, refl, ap, ◌∙◌, ap₂, arith}
use Rattle.std.proofs.lemmas.List.{drop_more}
use Rattle.std.proofs.lemmas.Bool.{lt-ltb, leb-true, and_parts, cond-true}
use Rattle.vocabulary.specs.declared.kind.Kind.{Kind}
use Rattle.vocabulary.specs.declared.kind.Kind.TheVariants as Kind'
use Rattle.vocabulary.specs.declared.name.NameId.{NameId}
use Rattle.vocabulary.specs.Entities.{Entity}
use Rattle.terms.specs.declared.code.Code.{Code}
use Rattle.terms.specs.declared.code.Code.TheVariants as Code'
use Rattle.terms.specs.declared.code.Direction.{Direction}
use Rattle.terms.specs.declared.term.RoleItem.{RoleItem}
use Rattle.terms.specs.declared.term.RoleItem.TheVariants.{Forward, Inverse}
use Rattle.terms.specs.Codes.{code_of, direction_of}
use Rattle.terms.specs.Forms.{Form, Rule, nesting, nothing, everything, concept, just, negation, both, exists, at_least, inclusion, equivalence, role_inclusion, transitive, functional, member, related}
use Rattle.terms.specs.Reading.{Outcome, got, next, read_byte, read_number, read_code, read_direction, read_count, read_name, read_role, read_rest, read_term, read_whole, read_axiom}
use Rattle.terms.specs.Writing.{name_bytes, role_bytes, term_bytes, body_bytes, rule_kind}
use Rattle.terms.specs.Numbers.{two_bytes}
use Rattle.terms.specs.WellFormed.{name_fits, role_fits, numbers_fit, term_fits, well_formed}
use Rattle.terms.proofs.Steps.{next_got}
use Rattle.terms.proofs.Stands.{Stands, stands_whole, stands_left, stands_right}

-- a term has a level at least
nesting_some : (f : Form) → 1 ≤ nesting f
nesting_some nothing = omega arith
nesting_some everything = omega arith
nesting_some (concept n) = omega arith
nesting_some (just n) = omega arith
nesting_some (negation f) = omega arith
nesting_some (both f g) = omega arith
nesting_some (exists r f) = omega arith
nesting_some (at_least n r f) = omega arith

-- the last part of a reading
last_back : {X Y : Type 0} (make : X → Y) (x : X) (end : ℕ) {o : Outcome X} → o ≡ got x end → next o (λ y far. got (make y) far) ≡ got (make x) end
last_back make x end e = next_got _ _ x end _ e refl

module _ (body : List ℕ) where
  -- reading one part of what stands, and then the other
  parts_back : {X Y : Type 0} (xs ys : List ℕ) (at end : ℕ) (x : X) (o : Outcome X) (more : X → ℕ → Outcome Y) (z : Outcome Y) → Stands body at (xs ++ ys) end → ((mid : ℕ) → Stands body at xs mid → o ≡ got x mid) → ((mid : ℕ) → Stands body mid ys end → more x mid ≡ z) → next o more ≡ z
  parts_back xs ys at end x o more z s first then =
      next_got o more x _ z (first _ (stands_left body at end xs ys s)) (then _ (stands_right body at end xs ys s))

  byte_back : (start at b end : ℕ) → Stands body at (b ∷ []) end → read_byte body start at ≡ got b end
  byte_back start at b end s =
      let h : at < length body = omega arith in
      let front = ap (take 1) (drop_more body at 0 h) in
      let e : get_or body at 0 ≡ b = cc in
      cond-true _ _ _ (lt-ltb at (length body) h) ∙ ap₂ (λ v n. got v n) e s.ends

  number_back : (n at end : ℕ) → Stands body at (two_bytes n) end → read_number body at ≡ got n end
  number_back n at end s =
      let e : n % 256 + 256 * (n / 256) ≡ n = omega arith in
      parts_back (n % 256 ∷ []) (n / 256 ∷ []) at end (n % 256) _ _ _ s (λ mid t. byte_back at at _ mid t) (λ mid t.
      next_got _ _ _ _ _ (byte_back at mid _ end t) (ap (λ (m : ℕ). got m end) e))

  code_back : (b : ℕ) (c : Code) (at end : ℕ) → code_of b ≡ Some c → Stands body at (b ∷ []) end → read_code body at ≡ got c end
  code_back b c at end e s = next_got _ _ _ _ _ (byte_back at at b end s) (rw e refl)

  direction_back : (b : ℕ) (d : Direction) (at end : ℕ) → direction_of b ≡ Some d → Stands body at (b ∷ []) end → read_direction body at ≡ got d end
  direction_back b d at end e s = next_got _ _ _ _ _ (byte_back at at b end s) (rw e refl)

  count_back : (n at end : ℕ) → leb 1 n ≡ true → Stands body at (two_bytes n) end → read_count body at ≡ got n end
  count_back n at end e s = next_got _ _ _ _ _ (number_back n at end s) (rw e refl)

  module _ (names : List Entity) where
    name_back : (k : Kind) (n : NameId) (at end : ℕ) → name_fits names k n ≡ true → Stands body at (name_bytes n) end → read_name body names k at ≡ got n end
    name_back k n at end e s = next_got _ _ _ _ _ (number_back n.0 at end s) (cond-true _ _ _ e)

    role_back : (r : RoleItem) (at end : ℕ) → role_fits names r ≡ true → Stands body at (role_bytes r) end → read_role body names at ≡ got r end
    role_back (Forward r) at end e s =
        parts_back (0 ∷ []) (name_bytes r) at end _ _ _ _ s (λ mid t. direction_back 0 _ at mid refl t) (λ mid t.
        last_back _ r end (name_back Kind'.Role r mid end e t))
    role_back (Inverse r) at end e s =
        parts_back (1 ∷ []) (name_bytes r) at end _ _ _ _ s (λ mid t. direction_back 1 _ at mid refl t) (λ mid t.
        last_back _ r end (name_back Kind'.Role r mid end e t))

    -- a code that is read, and then what follows it
    after_code : (b : ℕ) (c : Code) (ys : List ℕ) (f : Form) (levels at end : ℕ) → code_of b ≡ Some c → Stands body at (b ∷ ys) end → ((mid : ℕ) → Stands body mid ys end → read_rest body names (read_term body names levels) c mid ≡ got f end) → read_term body names (suc levels) at ≡ got f end
    after_code b c ys f levels at end e s then = parts_back (b ∷ []) ys at end c _ _ _ s (λ mid t. code_back b c at mid e t) then

    -- a code with nothing after it
    code_alone : (b : ℕ) (c : Code) (f : Form) (levels at end : ℕ) → code_of b ≡ Some c → Stands body at (b ∷ []) end → read_rest body names (read_term body names levels) c end ≡ got f end → read_term body names (suc levels) at ≡ got f end
    code_alone b c f levels at end e s then = next_got _ _ c end _ (code_back b c at end e s) then

    -- a term that stands in a body is read there, where its levels are allowed
    pub term_back : (f : Form) (levels at end : ℕ) → numbers_fit names f ≡ true → nesting f ≤ levels → Stands body at (term_bytes f) end → read_term body names levels at ≡ got f end
    term_back f zero at end fits deep s = absurd (omega (arith, nesting_some f))
    term_back nothing (suc levels) at end fits deep s = code_alone 0 Code'.Nothing nothing levels at end refl s refl
    term_back everything (suc levels) at end fits deep s = code_alone 1 Code'.Everything everything levels at end refl s refl
    term_back (concept n) (suc levels) at end fits deep s =
        after_code 2 Code'.Concept (name_bytes n) _ levels at end refl s (λ mid t.
        last_back concept n end (name_back Kind'.Concept n mid end fits t))
    term_back (just n) (suc levels) at end fits deep s =
        after_code 3 Code'.Just (name_bytes n) _ levels at end refl s (λ mid t.
        last_back just n end (name_back Kind'.Individual n mid end fits t))
    term_back (negation f) (suc levels) at end fits deep s =
        after_code 4 Code'.Not (term_bytes f) _ levels at end refl s (λ mid t.
        last_back negation f end (term_back f levels mid end fits (omega arith) t))
    term_back (both f g) (suc levels) at end fits deep s =
        let parts = and_parts _ _ fits in
        after_code 5 Code'.And (term_bytes f ++ term_bytes g) _ levels at end refl s (λ mid t.
        parts_back (term_bytes f) (term_bytes g) mid end f _ _ _ t (λ far u. term_back f levels mid far parts.0 (omega arith) u) (λ far u.
        last_back (both f) g end (term_back g levels far end parts.1 (omega arith) u)))
    term_back (exists r f) (suc levels) at end fits deep s =
        let parts = and_parts _ _ fits in
        after_code 6 Code'.Exists (role_bytes r ++ term_bytes f) _ levels at end refl s (λ mid t.
        parts_back (role_bytes r) (term_bytes f) mid end r _ _ _ t (λ far u. role_back r mid far parts.0 u) (λ far u.
        last_back (exists r) f end (term_back f levels far end parts.1 (omega arith) u)))
    term_back (at_least n r f) (suc levels) at end fits deep s =
        let parts = and_parts _ _ fits in
        let count = and_parts _ _ parts.0 in
        let inside = and_parts _ _ parts.1 in
        after_code 7 Code'.AtLeast (two_bytes n ++ (role_bytes r ++ term_bytes f)) _ levels at end refl s (λ mid t.
        parts_back (two_bytes n) (role_bytes r ++ term_bytes f) mid end n _ _ _ t (λ far u. count_back n mid far count.0 u) (λ far u.
        parts_back (role_bytes r) (term_bytes f) far end r _ _ _ u (λ last v. role_back r far last inside.0 v) (λ last v.
        last_back (at_least n r) f end (term_back f levels last end inside.1 (omega arith) v))))

    whole_back : (f : Form) (at end : ℕ) → term_fits names f ≡ true → Stands body at (term_bytes f) end → read_whole body names at ≡ got f end
    unfolding read_whole
    whole_back f at end fits s =
        let parts = and_parts (leb (nesting f) 24) _ fits in
        term_back f 24 at end parts.1 (leb-true (nesting f) 24 parts.0) s

    -- an axiom that stands at a body's beginning is read there
    pub rule_back : (r : Rule) (end : ℕ) → well_formed names r ≡ true → Stands body 0 (body_bytes r) end → read_axiom body names (rule_kind r) ≡ got r end
    rule_back (inclusion f g) end fits s =
        let parts = and_parts (term_fits names f) _ fits in
        parts_back (term_bytes f) (term_bytes g) 0 end f _ _ _ s (λ mid t. whole_back f 0 mid parts.0 t) (λ mid t.
        last_back (inclusion f) g end (whole_back g mid end parts.1 t))
    rule_back (equivalence f g) end fits s =
        let parts = and_parts (term_fits names f) _ fits in
        parts_back (term_bytes f) (term_bytes g) 0 end f _ _ _ s (λ mid t. whole_back f 0 mid parts.0 t) (λ mid t.
        last_back (equivalence f) g end (whole_back g mid end parts.1 t))
    rule_back (role_inclusion r q) end fits s =
        let parts = and_parts (role_fits names r) _ fits in
        parts_back (role_bytes r) (role_bytes q) 0 end r _ _ _ s (λ mid t. role_back r 0 mid parts.0 t) (λ mid t.
        last_back (role_inclusion r) q end (role_back q mid end parts.1 t))
    rule_back (transitive r) end fits s = last_back transitive r end (name_back Kind'.Role r 0 end fits s)
    rule_back (functional r) end fits s = last_back functional r end (role_back r 0 end fits s)
    rule_back (member a f) end fits s =
        let parts = and_parts (name_fits names Kind'.Individual a) _ fits in
        parts_back (name_bytes a) (term_bytes f) 0 end a _ _ _ s (λ mid t. name_back Kind'.Individual a 0 mid parts.0 t) (λ mid t.
        last_back (member a) f end (whole_back f mid end parts.1 t))
    rule_back (related r a b) end fits s =
        let parts = and_parts (name_fits names Kind'.Role r) _ fits in
        let ends = and_parts (name_fits names Kind'.Individual a) _ parts.1 in
        parts_back (name_bytes r) (name_bytes a ++ name_bytes b) 0 end r _ _ _ s (λ mid t. name_back Kind'.Role r 0 mid parts.0 t) (λ mid t.
        parts_back (name_bytes a) (name_bytes b) mid end a _ _ _ t (λ far u. name_back Kind'.Individual a mid far ends.0 u) (λ far u.
        last_back (related r a) b end (name_back Kind'.Individual b far end ends.1 u)))

-- a well-formed axiom that is written is read back
pub read_back : (names : List Entity) (r : Rule) → well_formed names r ≡ true → read_axiom (body_bytes r) names (rule_kind r) ≡ got r (length (body_bytes r))
read_back names r fits = rule_back (body_bytes r) names r (length (body_bytes r)) fits (stands_whole (body_bytes r))
