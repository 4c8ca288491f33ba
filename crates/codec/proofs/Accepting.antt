-- From the reading of an axiom to what its caller is told.
use Rattle.std.proofs.Common.{◌≡◌, ℕ, ◌+◌, ◌<◌, ◌≤◌, false, nat_lt, List, [], length, ◌++◌, get_or, Some, Ok, sym, ap, ◌∙◌, append-nil, arith}
use Rattle.std.proofs.lemmas.Bool.Decides.{nat_tests}
use Rattle.refusals.specs.Turns.{Gives}
use Rattle.terms.specs.declared.«axiom».Axiom.{Axiom}
use Rattle.terms.specs.declared.«axiom».AxiomKind.{AxiomKind}
use Rattle.terms.specs.declared.term.Term.{Term}
use Rattle.terms.specs.Forms.{Rule, rule}
use Rattle.terms.specs.Limits.{most_nodes}
use Rattle.terms.specs.Reading.{got, read_axiom}
use Rattle.terms.proofs.ItemsJudged.{items_right}
use Rattle.terms.proofs.ReadWell.{read_well}
use Rattle.terms.proofs.SameBytes.{same_bytes}
use Rattle.codec.specs.declared.reader.BodyReader.{BodyReader}
use Rattle.codec.specs.Steps.{bytes, entities_of}
use Rattle.codec.specs.Building.{Begins, Builds, LaysAxiom}
use Rattle.codec.specs.Parsing.{Accepts, axiom_turn}
use Rattle.codec.proofs.Laid.{rule_means}

-- an axiom that was read leaves and answers what the turn says
pub accepted_turn_is : {b0 b1 : BodyReader} {t0 t1 : List Term} {x : Axiom} (k : AxiomKind) → length t0 + length (bytes b0) ≤ most_nodes → Builds LaysAxiom b0 t0 (Ok x) b1 t1 (read_axiom (bytes b0) (entities_of b0) k) → Gives t1 (Some (Ok (record { «axiom» = x; end = b1.at }))) (axiom_turn t0 (entities_of b0) k (bytes b0))
accepted_turn_is {b0} {b1} {t0} {t1} {x} k room p =
    let no : nat_lt most_nodes (length t0 + length (bytes b0)) ≡ false = grind (arith, nat_tests) in
    rw (no, ← p.reads.read) (record {
      state = p.reads.laid.nodes;
      answer = ap (λ a. Some (Ok (record { «axiom» = a; end = b1.at }))) p.reads.laid.lies;
    })

pub accepts : {b0 b1 : BodyReader} {t0 t1 : List Term} {x : Axiom} {k : AxiomKind} → b0.at ≡ 0 → length t0 + length (bytes b0) ≤ most_nodes → ((i : ℕ) → get_or (bytes b0) i 0 < 256) → Builds LaysAxiom b0 t0 (Ok x) b1 t1 (read_axiom (bytes b0) (entities_of b0) k) → Accepts t0 (entities_of b0) k (bytes b0) (record { «axiom» = x; end = b1.at }) t1
accepts {b0} {b1} {t0} {t1} {x} {k} start room typed p =
    let r : Rule = p.reads.value in
    let reads = sym p.reads.read in
    let fits = read_well (bytes b0) (entities_of b0) k r b1.at typed reads in
    let same = same_bytes (bytes b0) (entities_of b0) k r b1.at typed reads in
    let means : (later : List Term) → Begins t1 later → rule later x ≡ r =
    λ later l. ap (rule later) p.reads.laid.lies ∙ rule_means (entities_of b0) r t0 l.more later fits (l.grown ∙ ap (λ ts. ts ++ l.more) p.reads.laid.nodes) in
    let now : rule t1 x ≡ r = means t1 (record { more = []; grown = sym (append-nil t1) }) in
    record {
      roomy = room;
      begins = p.begins;
      few = omega (arith, p.frugal);
      reads = λ later l. ap (λ s. got s b1.at) (means later l) ∙ p.reads.read;
      fits = rw now fits;
      kept = rw now same.0;
      within = same.2;
      complete = (items_right (entities_of b0) (bytes b0) k r b1.at reads).1;
      kind_kept = rw now same.1;
    }
