use Rattle.std.proofs.Common.{◌≡◌, map, drop, string_bytes}
use Rattle.book.specs.Calls.{vocabulary_of}
use Rattle.vocabulary.specs.Naming.{entities}
use Rattle.runs.specs.Steps.{change_of}
use Rattle.winavulor.specs.Words.{seedings}
use Rattle.winavulor.proofs.Seeding.{ahead}
use Rattle.winavulor.proofs.order.edits.Given as goal

abbrev pub invariant-loop-word : goal.invariant-loop-word
invariant-loop-word l = seedings (entities (vocabulary_of l.book)) (map string_bytes l.words) ≡ ahead (map change_of l.edits.items) (seedings (entities (vocabulary_of l.book)) (map string_bytes (drop l.word-index l.words)))
