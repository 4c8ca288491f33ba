-- Readings one after the other, in a table that grows.
use Rattle.std.proofs.Common.{◌≡◌, ℕ, zero, suc, ◌+◌, ◌-◌, ◌<◌, ◌≤◌, max, List, [], ◌∷◌, ◌++◌, length, Some, Ok, Err, Result, sym, refl, ap, ◌∙◌, subst, append_assoc, sub-one, arith, length-append}
use Rattle.std.proofs.Math.Bridge.{le_prop}
use Rattle.std.proofs.Math.Nat.{max-eq_right}
use Rattle.std.proofs.lemmas.Bool.Decides.{nat_tests}
use Rattle.vocabulary.specs.Entities.{Entity}
use Rattle.terms.specs.declared.code.Code.{Code}
use Rattle.terms.specs.declared.code.Code.TheVariants as Code'
use Rattle.terms.specs.declared.count.Count.{Count}
use Rattle.terms.specs.declared.fault.ItemFault.{ItemFault}
use Rattle.terms.specs.declared.term.RoleItem.{RoleItem}
use Rattle.terms.specs.declared.term.Term.{Term}
use Rattle.terms.specs.declared.term.Term.TheVariants.{AtLeast}
use Rattle.terms.specs.declared.term.TermId.{TermId}
use Rattle.terms.specs.Forms.{Form, at_least}
use Rattle.terms.specs.Tables.{Pushed}
use Rattle.terms.specs.Reading.{got, next, read_code, read_count, read_role, read_term, read_rest}
use Rattle.codec.specs.declared.reader.BodyReader.{BodyReader}
use Rattle.codec.specs.Laying.{node_count, term_nodes, term_place}
use Rattle.codec.specs.Steps.{Does, bytes, entities_of}
use Rattle.codec.specs.Building.{Begins, Builds, LaysTerm, LaysInner}

begins_on : (a b c : List Term) → Begins a b → Begins b c → Begins a c
begins_on a b c p q = record { more = p.more ++ q.more; grown = q.grown ∙ ap (λ l. l ++ q.more) p.grown ∙ append_assoc a p.more q.more }

-- a term with a level left begins with its code
read_step : (b : List ℕ) (names : List Entity) (n at : ℕ) → 0 < n → read_term b names n at ≡ next (read_code b at) (λ code mid. read_rest b names (read_term b names (n - 1)) code mid)
read_step b names zero at h = absurd (omega arith)
read_step b names (suc n) at h = rw sub-one refl

-- a code takes one byte
from_code : (b : List ℕ) (at : ℕ) {k : Code} {end : ℕ} → got k end ≡ read_code b at → (end ≡ at + 1) × (at < length b)
from_code b at {k} {end} e = (grind (arith, nat_tests), grind (arith, nat_tests))

-- a count is the node's count of its value
counts_same : (c : Count) (v : ℕ) → c.value ≡ v → (some : 1 ≤ v) → record { value = v; some = some } ≡ c
counts_same c v e = subst (λ n. (some : 1 ≤ n) → ◌≡◌ {A = Count} (record { value = n; some = some }) c) e (λ some. ap {B = Count} (λ h. record { value = c.value; some = h }) (le_prop some c.some))

node_count_is : (c : Count) → node_count c.value ≡ c
node_count_is c = counts_same c (max 1 c.value) (sym (max-eq_right c.some)) _

-- a node that was pushed stands at the end
pushed_grows : {t1 t2 : List Term} {x : Term} {id : TermId} → Pushed t1 x (Some id) t2 → (t2 ≡ t1 ++ x ∷ []) × (id.0 ≡ length t1)
pushed_grows {t1} {t2} {x} {id} h = (grind (arith, nat_tests), grind (arith, nat_tests))

-- so the term whose node it is lies there
pushed_lays : {t0 t1 t2 : List Term} {x : Term} {id : TermId} {f : Form} → LaysInner t0 t1 x f → Pushed t1 x (Some id) t2 → LaysTerm t0 t2 id f
pushed_lays {t0} {t1} {t2} {x} {id} {f} l h =
    let g = pushed_grows h in
    let nodes : t2 ≡ t0 ++ term_nodes (length t0) f = g.0 ∙ l.nodes in
    let size : length t1 + 1 ≡ length t0 + length (term_nodes (length t0) f) =
    sym (length-append t1 (x ∷ [])) ∙ ap length l.nodes ∙ length-append t0 (term_nodes (length t0) f) in
    let place : id.0 ≡ length t0 + length (term_nodes (length t0) f) - 1 = omega (arith, g.1) in
    record { nodes = nodes; lies = ap {B = TermId} (λ n. record { 0 = n }) place }

-- a term as its reader says it
abbrev TermRead : ℕ → BodyReader → List Term → Result TermId ItemFault → BodyReader → List Term → Type 0
TermRead n b0 t0 r b1 t1 = Builds LaysTerm b0 t0 r b1 t1 (read_term (bytes b0) (entities_of b0) n b0.at)

abbrev RestRead : ℕ → Code → BodyReader → List Term → Result Term ItemFault → BodyReader → List Term → Type 0
RestRead n k b0 t0 r b1 t1 =
    Builds LaysInner b0 t0 r b1 t1 (read_rest (bytes b0) (entities_of b0) (read_term (bytes b0) (entities_of b0) n) k b0.at)

-- a term whose code is read: a node is added for it
module _ (n : ℕ) (some : 0 < n) {b0 b1 : BodyReader} {k : Code} (p : Does (λ x. x) b0 (Ok k) b1 (read_code (bytes b0) b0.at)) where
  after_at : read_rest (bytes b1) (entities_of b1) (read_term (bytes b1) (entities_of b1) (n - 1)) k b1.at ≡ read_term (bytes b0) (entities_of b0) n b0.at
  after_at = rw (p.body, p.names, read_step (bytes b0) (entities_of b0) n b0.at some, ← p.reads) refl

  one_byte : (b1.at ≡ b0.at + 1) × (b0.at < length (bytes b0))
  one_byte = from_code (bytes b0) b0.at p.reads

  pub term_err : {b2 : BodyReader} {t0 t1 : List Term} {e : ItemFault} → RestRead (n - 1) k b1 t0 (Err e) b2 t1 → TermRead n b0 t0 (Err e) b2 t1
  term_err q = record {
    body = q.body ∙ p.body;
    names = q.names ∙ p.names;
    onward = omega (arith, p.onward, q.onward);
    begins = q.begins;
    frugal = omega (arith, q.frugal, one_byte.0, one_byte.1, ap length p.body);
    reads = q.reads ∙ after_at;
  }

  pub term_ok : {b2 : BodyReader} {t0 t1 t2 : List Term} {x : Term} {id : TermId} → RestRead (n - 1) k b1 t0 (Ok x) b2 t1 → Pushed t1 x (Some id) t2 → TermRead n b0 t0 (Ok id) b2 t2
  term_ok {b2} {t0} {t1} {t2} {x} {id} q h =
      let g = pushed_grows h in
      record {
        body = q.body ∙ p.body;
        names = q.names ∙ p.names;
        onward = omega (arith, p.onward, q.onward);
        begins = begins_on t0 t1 t2 q.begins (record { more = x ∷ []; grown = g.0 });
        frugal = omega (arith, q.frugal, one_byte.0, one_byte.1, ap length p.body, length-append t1 (x ∷ []), ap length g.0);
        reads = record { value = q.reads.value; read = q.reads.read ∙ after_at; laid = pushed_lays q.reads.laid h };
      }

-- "at least" is read: its count, its role item and the term inside it
pub at_least_read : (n : ℕ) {b0 b1 b2 b3 : BodyReader} {t0 t1 : List Term} {c : Count} {r : RoleItem} {id : TermId} → Does (λ x. x.value) b0 (Ok c) b1 (read_count (bytes b0) b0.at) → Does (λ x. x) b1 (Ok r) b2 (read_role (bytes b1) (entities_of b1) b1.at) → TermRead n b2 t0 (Ok id) b3 t1 → RestRead n Code'.AtLeast b0 t0 (Ok (AtLeast c r id)) b3 t1
at_least_read n {b0} {b1} {b2} {b3} {t0} {t1} {c} {r} {id} p q s =
    let f = s.reads.value in
    let role : got r b2.at ≡ read_role (bytes b0) (entities_of b0) b1.at = rw (p.body, p.names) at q.reads in
    let inner : got f b3.at ≡ read_term (bytes b0) (entities_of b0) n b2.at = rw (q.body, q.names, p.body, p.names) at s.reads.read in
    let own : AtLeast c r id ≡ AtLeast (node_count c.value) r (term_place (length t0) f) =
    ap (λ k. AtLeast k r id) (sym (node_count_is c)) ∙ ap (AtLeast (node_count c.value) r) s.reads.laid.lies in
    record {
      body = s.body ∙ q.body ∙ p.body;
      names = s.names ∙ q.names ∙ p.names;
      onward = omega (arith, p.onward, q.onward, s.onward);
      begins = s.begins;
      frugal = omega (arith, s.frugal, p.onward, q.onward, ap length p.body, ap length q.body);
      reads = record {
        value = at_least c.value r f;
        read = rw (← p.reads, ← role, ← inner) refl;
        laid = record {
          nodes = ap (λ l. l ++ AtLeast c r id ∷ []) s.reads.laid.nodes ∙ append_assoc t0 (term_nodes (length t0) f) (AtLeast c r id ∷ []) ∙ ap (λ x. t0 ++ (term_nodes (length t0) f ++ x ∷ [])) own;
        };
      };
    }
