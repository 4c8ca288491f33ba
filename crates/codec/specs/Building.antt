-- What reading terms does: nodes are appended to the table, and what is read is laid down in them.
use Rattle.std.specs.Prelude.{◌≡◌, ℕ, ◌+◌, ◌-◌, ◌≤◌, List, [], ◌∷◌, ◌++◌, length, Ok, Err, Result}
use Rattle.terms.specs.declared.«axiom».Axiom.{Axiom}
use Rattle.terms.specs.declared.fault.ItemFault.{ItemFault}
use Rattle.terms.specs.declared.term.Term.{Term}
use Rattle.terms.specs.declared.term.TermId.{TermId}
use Rattle.terms.specs.Forms.{Form, Rule}
use Rattle.terms.specs.Reading.{Outcome, got, bad}
use Rattle.terms.specs.Tables.{nodes_of}
use Rattle.vocabulary.specs.Entities.{Entity}
use Rattle.codec.specs.declared.term_reader.TermReader.{TermReader}
use Rattle.codec.specs.declared.reader.BodyReader.{BodyReader}
use Rattle.codec.specs.Laying.{term_nodes, term_place, axiom_nodes, laid_axiom}
use Rattle.codec.specs.Steps.{bytes, entities_of}

-- the new table begins with the old one
pub record Begins (old new : List Term) : Type 0 where
  pub more : List Term
  pub grown : new ≡ old ++ more

-- the nodes of a term were added to the table, and it lies at a place
pub record LaysTerm (old new : List Term) (place : TermId) (f : Form) : Type 0 where
  pub nodes : new ≡ old ++ term_nodes (length old) f
  pub lies : place ≡ term_place (length old) f

-- the nodes of the terms inside a term were added, and its own is still to be
pub record LaysInner (old new : List Term) (own : Term) (f : Form) : Type 0 where
  pub nodes : new ++ own ∷ [] ≡ old ++ term_nodes (length old) f

-- the nodes of an axiom were added to the table
pub record LaysAxiom (old new : List Term) (x : Axiom) (r : Rule) : Type 0 where
  pub nodes : new ≡ old ++ axiom_nodes (length old) r
  pub lies : x ≡ laid_axiom (length old) r

-- the bytes of the body that are still to be read
abbrev pub left : BodyReader → ℕ
left b = length (bytes b) - b.at

-- what was read is as the format has it, and `Lays` tells how it was laid down
pub record Got {Y : Type 0} (Lays : Y → Type 0) (at : ℕ) (o : Outcome Y) : Type 0 where
  pub value : Y
  pub read : got value at ≡ o
  pub laid : Lays value

abbrev pub Reads : {X Y : Type 0} → (X → Y → Type 0) → Result X ItemFault → ℕ → Outcome Y → Type 0
Reads Lays (Ok x) at o = Got (Lays x) at o
Reads Lays (Err e) at o = bad e ≡ o

-- the reader goes on as in a step, the table grows by no more nodes than bytes were read, and the answer is what `read` says
pub record Builds {X Y : Type 0} (Lays : List Term → List Term → X → Y → Type 0) (before : BodyReader) (old : List Term) (r : Result X ItemFault) (after : BodyReader) (new : List Term) (read : Outcome Y) : Type 0 where
  pub body : bytes after ≡ bytes before
  pub names : entities_of after ≡ entities_of before
  pub onward : before.at ≤ after.at
  pub begins : Begins old new
  pub frugal : length new + left after ≤ length old + left before
  pub reads : Reads (Lays old new) r after.at read

abbrev pub bytes_of : TermReader → List ℕ
bytes_of r = bytes r.items

abbrev pub names_of : TermReader → List Entity
names_of r = entities_of r.items

-- that, for a reader that holds its table, which stays the same one
pub record Grows {X Y : Type 0} (Lays : List Term → List Term → X → Y → Type 0) (before : TermReader) (r : Result X ItemFault) (after : TermReader) (read : Outcome Y) : Type 0 where
  pub table : after.terms.ghost_name ≡ before.terms.ghost_name
  pub builds : Builds Lays before.items (nodes_of before.terms.now) r after.items (nodes_of after.terms.now) read
