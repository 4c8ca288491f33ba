-- Filing an axiom, outcome by outcome.
use Rattle.std.proofs.Common.{◌≡◌, ℕ, ◌+◌, ◌<◌, ◌≤◌, Bool, true, false, cond, ltb, leb, List, length, take, Some, None, Option, Result, sym, refl, ap, ◌∙◌, arith, ltb-false, leb-false}
use Rattle.std.proofs.lemmas.List.{take_at}
use Rattle.refusals.specs.Turns.{Turn, accepted_turn, refused_turn}
use Rattle.terms.specs.declared.«axiom».AxiomKind.{AxiomKind}
use Rattle.terms.specs.declared.fault.ItemFault.{ItemFault}
use Rattle.terms.specs.declared.term.Term.{Term}
use Rattle.terms.specs.Forms.{Rule}
use Rattle.terms.specs.Reading.{got, bad, read_axiom}
use Rattle.codec.specs.Building.{Begins}
use Rattle.book.specs.declared.book.AxiomId.{AxiomId}
use Rattle.book.specs.declared.fault.AxiomFault.{AxiomFault}
use Rattle.book.specs.declared.fault.AxiomFault.TheVariants.{Item, LeftOver, AxiomsFull, BytesFull}
use Rattle.book.specs.Contents.{Contents, bodies_length}
use Rattle.book.specs.Calls.{axiom_call, items_call, with_axiom}
use Rattle.book.specs.Limits.{most_axioms, most_bytes}

-- what was appended to the table is let go again
pub cut_back : {old new later : List Term} (n : ℕ) → Begins old new → n ≡ length old → later ≡ take n new → later ≡ old
cut_back {old} {new} {later} n b len cut = cut ∙ ap (take n) b.grown ∙ take_at old b.more n (sym len)

-- what stands against an axiom whose items end at `end` of `len` bytes, by the three tests
abbrev pub obstacle_by : Bool → Bool → Bool → ℕ → Option AxiomFault
obstacle_by s t u end = cond s (Some (LeftOver end)) (cond t (Some AxiomsFull) (cond u (Some BytesFull) None))

abbrev pub obstacle : ℕ → ℕ → ℕ → ℕ → Option AxiomFault
obstacle count bytes len end = obstacle_by (ltb end len) (leb most_axioms count) (ltb most_bytes (bytes + len)) end

module _ (b : Contents) (kind : AxiomKind) (body : List ℕ) where
  pub axiom_call_bad : (e : ItemFault) → bad e ≡ read_axiom body b.names kind → axiom_call b kind body ≡ refused_turn b (Item e)
  unfolding axiom_call
  axiom_call_bad e h = rw (← h) refl

  axiom_call_got : (r : Rule) (end : ℕ) → got r end ≡ read_axiom body b.names kind → axiom_call b kind body ≡ items_call b (length body) (got r end)
  unfolding axiom_call
  axiom_call_got r end h = rw (← h) refl

  module _ (r : Rule) (end count bytes : ℕ) (h : got r end ≡ read_axiom body b.names kind) (n : count ≡ length b.axioms) (m : bytes ≡ bodies_length b.axioms) where
    -- what filing comes to by the three tests
    abbrev tested : Bool → Bool → Bool → Turn Contents (Result AxiomId AxiomFault)
    tested s t u = cond s (refused_turn b (LeftOver end)) (cond t (refused_turn b AxiomsFull) (cond u (refused_turn b BytesFull) (accepted_turn (with_axiom b r) (record { 0 = length b.axioms }))))

    pub axiom_call_stopped : (fault : AxiomFault) → Some fault ≡ obstacle count bytes (length body) end → axiom_call b kind body ≡ refused_turn b fault
    axiom_call_stopped fault o = axiom_call_got r end h ∙ go _ _ _ (o ∙ rw (n, m) refl)
      where
        go : (s t u : Bool) → Some fault ≡ obstacle_by s t u end → tested s t u ≡ refused_turn b fault
        go true t u e = cc
        go false true u e = cc
        go false false true e = cc
        go false false false e = cc

    pub axiom_call_done : None ≡ obstacle count bytes (length body) end → axiom_call b kind body ≡ accepted_turn (with_axiom b r) (record { 0 = length b.axioms })
    axiom_call_done o = axiom_call_got r end h ∙ go _ _ _ (o ∙ rw (n, m) refl)
      where
        go : (s t u : Bool) → None ≡ obstacle_by s t u end → tested s t u ≡ accepted_turn (with_axiom b r) (record { 0 = length b.axioms })
        go true t u e = cc
        go false true u e = cc
        go false false true e = cc
        go false false false e = refl

-- nothing stands against the axiom
pub nothing_against : (count bytes len end : ℕ) → None ≡ obstacle count bytes len end → (len ≤ end) × (count < most_axioms) × (bytes + len ≤ most_bytes)
nothing_against count bytes len end h = go (ltb end len) (leb most_axioms count) (ltb most_bytes (bytes + len)) refl refl refl h
  where
    go : (s t u : Bool) → ltb end len ≡ s → leb most_axioms count ≡ t → ltb most_bytes (bytes + len) ≡ u → None ≡ obstacle_by s t u end → (len ≤ end) × (count < most_axioms) × (bytes + len ≤ most_bytes)
    go true t u a b c e = absurd (let z : ◌≡◌ {A = ℕ} 0 1 = cc in omega arith)
    go false true u a b c e = absurd (let z : ◌≡◌ {A = ℕ} 0 1 = cc in omega arith)
    go false false true a b c e = absurd (let z : ◌≡◌ {A = ℕ} 0 1 = cc in omega arith)
    go false false false a b c e = (ltb-false end len a, leb-false most_axioms count b, ltb-false most_bytes (bytes + len) c)
