-- A cursor's bytes as bytes written from a place on.
use Rattle.std.proofs.Common.{◌≡◌, ℕ, ◌+◌, ◌<◌, List, length, Some, None, cond, nat_le, ap, ◌∙◌, arith, length-append}
use Rattle.std.proofs.lemmas.Bool.Decides.{nat_tests}
use Rattle.terms.specs.Forms.{Form, Rule, nothing, everything, concept, just, negation, both, exists, at_least, inclusion, equivalence, role_inclusion, transitive, functional, member, related}
use Rattle.terms.specs.declared.term.RoleItem.TheVariants.{Forward, Inverse}
use Rattle.terms.specs.declared.term.RoleItem.{RoleItem}
use Rattle.terms.specs.Writing.{term_bytes, role_bytes, body_bytes}
use Rattle.writer.specs.declared.sink.Cursor.{Cursor}
use Rattle.writer.specs.Placing.{Wrote}
use Rattle.writer.specs.Sinks.{Took, filled, place_after}

some_term : (f : Form) → 0 < length (term_bytes f)
some_term nothing = omega arith
some_term everything = omega arith
some_term (concept n) = omega arith
some_term (just n) = omega arith
some_term (negation f) = omega arith
some_term (both f g) = omega arith
some_term (exists r f) = omega arith
some_term (at_least n r f) = omega arith

some_role : (r : RoleItem) → 0 < length (role_bytes r)
some_role (Forward r) = omega arith
some_role (Inverse r) = omega arith

-- the body of an axiom has bytes
pub some_body : (r : Rule) → 0 < length (body_bytes r)
some_body (inclusion f g) = omega (arith, some_term f, length-append (term_bytes f) (term_bytes g))
some_body (equivalence f g) = omega (arith, some_term f, length-append (term_bytes f) (term_bytes g))
some_body (role_inclusion r s) = omega (arith, some_role r, length-append (role_bytes r) (role_bytes s))
some_body (transitive r) = omega arith
some_body (functional r) = some_role r
some_body (member a f) = omega arith
some_body (related r a b) = omega arith

place_answer : (at n size : ℕ) → 0 < n → place_after (Some at) n size ≡ cond (nat_le (at + n) size) (Some (at + n)) None
place_answer at n size some = grind (arith, nat_tests)

-- some bytes, taken by a cursor at a place of a buffer
pub took_wrote : (s t : Cursor) (bytes : List ℕ) (at : ℕ) → 0 < length bytes → s.at ≡ Some at → Took s bytes t → Wrote bytes s.out.now at t.at t.out.now
took_wrote s t bytes at some start took = record {
  placed = took.buffer ∙ ap (λ p. filled p bytes s.out.now) start;
  answer = took.place ∙ ap (λ p. place_after p (length bytes) (length s.out.now)) start ∙ place_answer at (length bytes) (length s.out.now) some;
}
