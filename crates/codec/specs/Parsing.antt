-- What reading an axiom leaves in the table of terms, and what it answers.
use Rattle.std.specs.Prelude.{◌≡◌, ℕ, ◌+◌, ◌<◌, ◌≤◌, true, if◌then◌else◌, List, length, ◌++◌, take, Some, None, Ok, Err, Option, Result, nat_lt}
use Rattle.refusals.specs.Turns.{Turn}
use Rattle.vocabulary.specs.Entities.{Entity}
use Rattle.terms.specs.declared.«axiom».AxiomKind.{AxiomKind}
use Rattle.terms.specs.declared.fault.ItemFault.{ItemFault}
use Rattle.terms.specs.declared.term.Term.{Term}
use Rattle.terms.specs.Forms.{Rule, rule}
use Rattle.terms.specs.Layout.{layout}
use Rattle.terms.specs.Limits.{most_nodes}
use Rattle.terms.specs.Reading.{Outcome, got, bad, read_axiom}
use Rattle.terms.specs.WellFormed.{well_formed}
use Rattle.terms.specs.Writing.{body_bytes, rule_kind}
use Rattle.codec.specs.declared.parsed.Parsed.{Parsed}
use Rattle.codec.specs.Laying.{axiom_nodes, laid_axiom}
use Rattle.codec.specs.Building.{Begins}

abbrev pub Reading : Type 0
Reading = Turn (List Term) (Option (Result Parsed ItemFault))

-- the nodes of an axiom's terms are added, and no others; a fault changes nothing
abbrev pub laid_turn : List Term → Outcome Rule → Reading
laid_turn old (got r end) = record {
  state = old ++ axiom_nodes (length old) r;
  answer = Some (Ok (record { «axiom» = laid_axiom (length old) r; end = end }));
}
laid_turn old (bad fault) = record { state = old; answer = Some (Err fault) }

-- a body is read where the table has room for as many nodes as it has bytes
abbrev pub axiom_turn : List Term → List Entity → AxiomKind → List ℕ → Reading
axiom_turn old names kind body =
    if nat_lt most_nodes (length old + length body) then record { state = old; answer = None }
    else laid_turn old (read_axiom body names kind)

-- an axiom was read: there was room for as many nodes as the body has bytes, and no more were added. It is the axiom that
-- the format gives, in every table that begins with this one; it is well formed, written it gives the bytes that were
-- read, and the items that are due end where the reading does
pub record Accepts (old : List Term) (names : List Entity) (kind : AxiomKind) (body : List ℕ) (p : Parsed) (new : List Term) : Type 0 where
  pub roomy : length old + length body ≤ most_nodes
  pub begins : Begins old new
  pub few : length new ≤ length old + length body
  pub reads : (later : List Term) → Begins new later → got (rule later p.«axiom») p.end ≡ read_axiom body names kind
  pub fits : well_formed names (rule new p.«axiom») ≡ true
  pub kept : body_bytes (rule new p.«axiom») ≡ take p.end body
  pub within : p.end ≤ length body
  pub complete : (layout body kind).end ≡ Some p.end
  pub kind_kept : rule_kind (rule new p.«axiom») ≡ kind

-- a fault is the one that the format gives, and leaves the table as it was
pub record Refuses (old : List Term) (names : List Entity) (kind : AxiomKind) (body : List ℕ) (e : ItemFault) (new : List Term) : Type 0 where
  pub roomy : length old + length body ≤ most_nodes
  pub same : new ≡ old
  pub reads : bad e ≡ read_axiom body names kind

-- there was no room
pub record Overflows (old : List Term) (body : List ℕ) (new : List Term) : Type 0 where
  pub same : new ≡ old
  pub crowded : most_nodes < length old + length body

abbrev pub Parses : List Term → List Entity → AxiomKind → List ℕ → Option (Result Parsed ItemFault) → List Term → Type 0
Parses old names kind body (Some (Ok p)) new = Accepts old names kind body p new
Parses old names kind body (Some (Err e)) new = Refuses old names kind body e new
Parses old names kind body None new = Overflows old body new
