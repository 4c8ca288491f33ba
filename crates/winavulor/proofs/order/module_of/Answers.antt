use Rattle.std.proofs.Common.{◌≡◌, Ok, map, string_bytes, subst, sym}
use Rattle.vocabulary.specs.Naming.{entities}
use Rattle.book.specs.Calls.{contents, vocabulary_of}
use Rattle.extraction.specs.Marking.{lent}
use Rattle.runs.specs.Steps.{change_of}
use Rattle.winavulor.specs.Words.{seedings}
use Rattle.records.proofs.Files.{all_fit}
use Rattle.winavulor.proofs.Loaded.{calls_of_bytes, cut_out, pile_promised}
use Rattle.winavulor.proofs.order.module_of.Goals as goal

pub returns : goal.returns
returns c =
    let m = c.in_ok-module.module in
    let draft = c.in_ok-draft in
    let words = map string_bytes c.args.words.now in
    let es = c.as_slice.result.now in
    let asked : seedings (entities (vocabulary_of c.book.result.now)) words ≡ Ok (map change_of es) = subst (λ xs. seedings (entities (vocabulary_of c.book.result.now)) words ≡ Ok (map change_of xs)) (sym c.as_slice.ensures.value) c.in_ok-edits.ensures.answers in
    let seeds : seedings (contents draft.draft).names words ≡ Ok (map change_of es) = subst (λ b. seedings (contents b).names words ≡ Ok (map change_of es)) c.book.ensures.value asked in
    let of_bytes = calls_of_bytes c.args.bytes.now _ words (map change_of es) (all_fit c.args.bytes.now c.type_inv.bytes) seeds in
    cut_out c.args.bytes.now draft.records words c.args.pile.now (contents draft.draft) (contents m.frozen) es (record { marks = lent m.axioms m.names; marking = m.marking; part = m.part.items }) draft.ensures.book draft.ensures.taken seeds c.in_ok-module.ensures.frozen (pile_promised c.args.pile.now _ of_bytes) c.in_ok-module.ensures.marks c.in_ok-module.ensures.part
