-- Every list of calls keeps what every book keeps.
use Rattle.std.proofs.Common.{◌≡◌, ℕ, Bool, true, false, cond, ◌&&◌, ltb, List, [], ◌∷◌, ◌++◌, length, Ok, Err, Result, sym, ap, ◌∙◌, subst, arith, append-nil}
use Rattle.std.specs.List.{list_all}
use Rattle.std.proofs.lemmas.Bool.{and_parts}
use Rattle.std.proofs.lemmas.List.Folds.{list_all-append}
use Rattle.refusals.specs.Turns.{Turn, accepted_turn, refused_turn}
use Rattle.terms.specs.Numbers.{number_of}
use Rattle.book.specs.Contents.{Contents}
use Rattle.book.specs.Calls.{blank}
use Rattle.book.specs.Proper.{Proper}
use Rattle.records.specs.declared.kind.RecordKind.{RecordKind}
use Rattle.records.specs.declared.kind.RecordKind.TheVariants as Kind'
use Rattle.records.specs.Files.{Entry, file_bytes}
use Rattle.records.specs.Loading.{loads, loading}
use Rattle.records.specs.Stops.{Stop, not_blank, at_record}
use Rattle.records.specs.Taking.{IsAskedCall, IsTaken, AreTaken}
use Rattle.records.proofs.Law.{Comes, loads_come}
use Rattle.records.specs.Files.{all_bytes}
use Rattle.part.proofs.Accepted.{byte_at}
use Rattle.part.proofs.InOrder.{file_bytes_again}
use Rattle.part.proofs.Kept.{empty_proper, naming_proper, adding_proper, filing_proper, seeding_proper, forcing_proper}
use Rattle.runs.specs.Promise.{is_of_bytes, AreOfBytes}
use Rattle.runs.specs.Steps.{Change, Step, Status, Standing, name, file, load, lay_aside, restore, seed, unseed, change, freeze, reopen, draft, frozen, start, edit_turn, turn_from, call_turn, state_from, state_after}

-- what a call leaves is what its acceptance says
left : {A F : Type 0} {turn : Turn Contents (Result A F)} {c : Contents} {x : A} → turn ≡ accepted_turn c x → Proper turn.state → Proper c
left is p = subst Proper (ap (λ u. u.state) is) p

-- a record that is taken
taken_proper : {b c : Contents} (e : Entry) → Proper b → all_bytes e.body ≡ true → IsTaken b e c → Proper c
taken_proper {b} {c} e p bytes is = go is.kind is.call
  where
    go : (k : RecordKind) → IsAskedCall b e.body c k → Proper c
    go Kind'.Name call = left call.accepted (naming_proper p call.kind call.label)
    go (Kind'.Axiom k) call = left call.accepted (adding_proper p k e.body (byte_at e.body bytes) is.short)
    go Kind'.Seed call = left call.accepted (seeding_proper p (number_of call.low call.high) true)

are_taken_proper : {b c : Contents} (es : List Entry) → Proper b → all_bytes (file_bytes es) ≡ true → AreTaken b es c → Proper c
are_taken_proper [] p bytes are = subst Proper are p
are_taken_proper (e ∷ es) p bytes are =
    let body = file_bytes_again e es bytes in
    are_taken_proper es (taken_proper e p body.0 are.1) body.1 are.2

module _ {b : Contents} (p : Proper b) where
  -- a file
  loading_proper : (bytes : List ℕ) → all_bytes bytes ≡ true → Proper (loading b bytes).state
  unfolding loading
  loading_proper bytes all = go (blank b)
    where
      begun : (c : Contents) (es : List Entry) (rest : List ℕ) → bytes ≡ file_bytes es ++ rest → AreTaken b es c → Proper c
      begun c es rest splits are =
          let whole : (list_all (λ x. ltb x 256) (file_bytes es) && list_all (λ x. ltb x 256) rest) ≡ true =
          sym (list_all-append (λ x. ltb x 256) (file_bytes es) rest) ∙ ap all_bytes (sym splits) ∙ all in
          are_taken_proper es p (and_parts _ _ whole).0 are

      came : (r : Result ℕ Stop) (c : Contents) → Comes b bytes 0 0 c r → Proper c
      came (Ok n) c k = begun c k.entries [] (k.whole ∙ sym (append-nil (file_bytes k.entries))) k.are
      came (Err (at_record at fault n)) c k = begun c k.entries k.rest k.splits k.are
      came (Err not_blank) c k = absurd k

      go : (empty : Bool) → Proper (Turn.state (cond empty (loads (length bytes) bytes b 0 0) (refused_turn b not_blank)))
      go true = came (loads (length bytes) bytes b 0 0).answer _ (loads_come (length bytes) bytes all (omega arith) b 0 0)
      go false = p

  edit_proper : (c : Change) → is_of_bytes (change c) ≡ true → Proper (edit_turn b c).state
  edit_proper (name kind label) bytes = naming_proper p kind label
  edit_proper (file kind body) bytes = filing_proper p kind body (byte_at body bytes)
  edit_proper (load whole) bytes = loading_proper whole bytes
  edit_proper (lay_aside k) bytes = forcing_proper p k false
  edit_proper (restore k) bytes = forcing_proper p k true
  edit_proper (seed n) bytes = seeding_proper p n true
  edit_proper (unseed n) bytes = seeding_proper p n false

  turn_proper : (status : Status) (c : Step) → is_of_bytes c ≡ true → Proper (turn_from status b c).state.book
  turn_proper draft (change c) bytes = edit_proper c bytes
  turn_proper draft freeze bytes = p
  turn_proper draft reopen bytes = p
  turn_proper frozen (change c) bytes = p
  turn_proper frozen freeze bytes = p
  turn_proper frozen reopen bytes = p

state_from_proper : (cs : List Step) → AreOfBytes cs → (s : Standing) → Proper s.book → Proper (state_from s cs).book
state_from_proper [] bytes s p = p
state_from_proper (c ∷ cs) bytes s p =
    let each = and_parts (is_of_bytes c) (list_all is_of_bytes cs) bytes in
    state_from_proper cs each.1 (call_turn s c).state (turn_proper p s.status c each.0)

-- from an empty draft
pub state_after_proper : (cs : List Step) → AreOfBytes cs → Proper (state_after cs).book
state_after_proper cs bytes = state_from_proper cs bytes start empty_proper
