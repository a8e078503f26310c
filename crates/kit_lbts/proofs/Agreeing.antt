-- How a federate goes on to agree with the simulation: by itself.
use Rattle.std.proofs.Common.{◌≡◌, ℕ, ◌+◌, min, Bool, true, false, cond, List, [], ◌∷◌, ◌++◌, length, map, fold, Some, None, refl, sym, ap, ◌∙◌, subst, arith}
use Rattle.std.specs.List.{filter_map}
use Rattle.std.proofs.lemmas.Grind.{flat_map-append}
use Rattle.std.proofs.lemmas.List.{append-nil, append_assoc, length-append, length-map}
use Rattle.kit_base.specs.declared.history.Line.{Line}
use Rattle.kit_base.specs.declared.history.Line.TheVariants as line
use Rattle.kit_base.specs.declared.message.Message.{Message}
use Rattle.kit_base.specs.Order.{in_order, is_before, put}
use Rattle.kit_model.specs.declared.journal.JournalEntry.{JournalEntry}
use Rattle.kit_model.specs.declared.journal.JournalEntry.TheVariants.{Received, Delivered, Granted}
use Rattle.kit_model.specs.Journals.{line_told, lines_told, now_of}
use Rattle.kit_parts.specs.Fronts.{IsFront, seat_after}
use Rattle.kit_rules.specs.declared.table.Request.{Request}
use Rattle.kit_rules.specs.declared.table.Request.TheVariants.{Tar, Ner}
use Rattle.kit_rules.specs.declared.table.Trigger.TheVariants.{Start}
use Rattle.kit_rules.specs.declared.scene.State.{State}
use Rattle.kit_rules.specs.Delivery.{due_time}
use Rattle.kit_rules.specs.Parts.{Parts, federate_at}
use Rattle.kit_rules.specs.Simulation.{Block, block, block_lines, lines_of, request_at, seat_at_start}
use Rattle.kit_rules.specs.Step.{opening_state, state_after}
use Rattle.kit_lbts.specs.declared.view.LbtsView.{LbtsView}
use Rattle.kit_lbts.specs.Views.{delivery_of, is_new}
use Rattle.kit_lbts.specs.Progress.{view_after_start}
use Rattle.kit_lbts.specs.Agreement.{Agrees, blocks_from, blocks_in}
use Rattle.kit_lbts.specs.AgreementLaws.{StartsAgree, TellsTheSame}

-- ---- the due time does not hang on the order of the messages
least_first : (t a : ℕ) (ms : List Message) → fold (λ (t : ℕ) (m : Message). min t m.time) (min t a) ms ≡ min (fold (λ (t : ℕ) (m : Message). min t m.time) t ms) a
least_first t a [] = refl
least_first t a (m ∷ ms) =
    let swap : min (min t a) m.time ≡ min (min t m.time) a = omega arith in
    ap (λ (x : ℕ). fold (λ (t : ℕ) (m : Message). min t m.time) x ms) swap ∙ least_first (min t m.time) a ms

least_put : (t : ℕ) (m : Message) (xs : List Message) → fold (λ (t : ℕ) (m : Message). min t m.time) t (put m xs) ≡ fold (λ (t : ℕ) (m : Message). min t m.time) (min t m.time) xs
least_put t m [] = refl
least_put t m (x ∷ xs) = by (is_before m x) (least_put (min t x.time) m xs)
  where
    by : (b : Bool) → fold (λ (t : ℕ) (m : Message). min t m.time) (min t x.time) (put m xs) ≡ fold (λ (t : ℕ) (m : Message). min t m.time) (min (min t x.time) m.time) xs
        → fold (λ (t : ℕ) (m : Message). min t m.time) t (cond b (m ∷ x ∷ xs) (x ∷ put m xs)) ≡ fold (λ (t : ℕ) (m : Message). min t m.time) (min (min t m.time) x.time) xs
    by true h = refl
    by false h = let swap : min (min t x.time) m.time ≡ min (min t m.time) x.time = omega arith in h ∙ ap (λ (y : ℕ). fold (λ (t : ℕ) (m : Message). min t m.time) y xs) swap

least_ordered : (t : ℕ) (acc xs : List Message) → fold (λ (t : ℕ) (m : Message). min t m.time) t (fold (λ (sorted : List Message) (m : Message). put m sorted) acc xs)
    ≡ fold (λ (t : ℕ) (m : Message). min t m.time) (fold (λ (t : ℕ) (m : Message). min t m.time) t acc) xs
least_ordered t acc [] = refl
least_ordered t acc (x ∷ xs) =
    least_ordered t (put x acc) xs
    ∙ ap (λ (y : ℕ). fold (λ (t : ℕ) (m : Message). min t m.time) y xs) (least_put t x acc ∙ least_first t x.time acc)

pub due_ordered : (r : Request) (ms : List Message) → due_time r (in_order ms) ≡ due_time r ms
due_ordered (Tar t) ms = refl
due_ordered (Ner t) ms = least_ordered t [] ms

-- ---- journals
-- what was delivered since the last grant
abbrev loose_from : List Message → List JournalEntry → List Message
loose_from got [] = got
loose_from got (Received m ∷ es) = loose_from got es
loose_from got (Delivered t m ∷ es) = loose_from (got ++ m ∷ []) es
loose_from got (Granted t ∷ es) = loose_from [] es

-- the entries are the lines of the blocks, and these
loose_count : (j : ℕ) (got : List Message) (es : List JournalEntry) → length (lines_told j es) + length got ≡ length (lines_of (blocks_from j got es)) + length (loose_from got es)
loose_count j got [] = refl
loose_count j got (Received m ∷ es) = loose_count j got es
loose_count j got (Delivered t m ∷ es) = omega (arith, loose_count j (got ++ m ∷ []) es, length-append got (m ∷ []))
loose_count j got (Granted t ∷ es) =
    omega (
      arith,
      loose_count j [] es,
      length-append (block_lines (block j t got)) (lines_of (blocks_from j [] es)),
      length-append (map (line.Deliver t j) got) (line.Grant t j ∷ []),
      length-map got (line.Deliver t j),
    )

none_loose : (j : ℕ) (es : List JournalEntry) → lines_told j es ≡ lines_of (blocks_from j [] es) → loose_from [] es ≡ []
none_loose j es whole = empty (loose_from [] es) (omega (arith, loose_count j [] es, ap length whole))
  where
    empty : (xs : List Message) → length xs ≡ 0 → xs ≡ []
    empty [] e = refl
    empty (x ∷ xs) e = absurd (omega (arith, e))

pub blocks_on : (j : ℕ) (got : List Message) (es more : List JournalEntry) → blocks_from j got (es ++ more) ≡ blocks_from j got es ++ blocks_from j (loose_from got es) more
blocks_on j got [] more = refl
blocks_on j got (Received m ∷ es) more = blocks_on j got es more
blocks_on j got (Delivered t m ∷ es) more = blocks_on j (got ++ m ∷ []) es more
blocks_on j got (Granted t ∷ es) more = ap (λ (l : List Block). block j t got ∷ l) (blocks_on j [] es more)

-- the entries of a grant are its block
block_is : (j d : ℕ) (got due : List Message) → blocks_from j got (map (Delivered d) due ++ Granted d ∷ []) ≡ block j d (got ++ due) ∷ []
block_is j d got [] = ap (λ (l : List Message). block j d l ∷ []) (sym (append-nil got))
block_is j d got (m ∷ ms) = block_is j d (got ++ m ∷ []) ms ∙ ap (λ (l : List Message). block j d l ∷ []) (append_assoc got (m ∷ []) ms)

lines_are : (j d : ℕ) (due : List Message) → lines_told j (map (Delivered d) due ++ Granted d ∷ []) ≡ block_lines (block j d due)
lines_are j d [] = refl
lines_are j d (m ∷ ms) = ap (λ (l : List Line). line.Deliver d j m ∷ l) (lines_are j d ms)

lines_of_on : (bs : List Block) (b : Block) → lines_of (bs ++ b ∷ []) ≡ lines_of bs ++ block_lines b
lines_of_on [] b = append-nil (block_lines b)
lines_of_on (x ∷ xs) b = ap (λ (l : List Line). block_lines x ++ l) (lines_of_on xs b) ∙ sym (append_assoc (block_lines x) (lines_of xs) (block_lines b))

-- a journal after a grant
pub blocks_granted : (j d : ℕ) (es : List JournalEntry) (due : List Message) → lines_told j es ≡ lines_of (blocks_from j [] es)
    → blocks_from j [] ((es ++ map (Delivered d) due) ++ Granted d ∷ []) ≡ blocks_from j [] es ++ block j d due ∷ []
blocks_granted j d es due whole =
    ap (blocks_from j []) (append_assoc es (map (Delivered d) due) (Granted d ∷ []))
    ∙ blocks_on j [] es (map (Delivered d) due ++ Granted d ∷ [])
    ∙ ap (λ (l : List Message). blocks_from j [] es ++ blocks_from j l (map (Delivered d) due ++ Granted d ∷ [])) (none_loose j es whole)
    ∙ ap (λ (l : List Block). blocks_from j [] es ++ l) (block_is j d [] due)

pub whole_granted : (j d : ℕ) (es : List JournalEntry) (due : List Message) → lines_told j es ≡ lines_of (blocks_from j [] es)
    → lines_told j ((es ++ map (Delivered d) due) ++ Granted d ∷ []) ≡ lines_of (blocks_from j [] es ++ block j d due ∷ [])
whole_granted j d es due whole =
    ap (lines_told j) (append_assoc es (map (Delivered d) due) (Granted d ∷ []))
    ∙ flat_map-append (line_told j) es (map (Delivered d) due ++ Granted d ∷ [])
    ∙ (λ t. whole t ++ lines_are j d due t)
    ∙ sym (lines_of_on (blocks_from j [] es) (block j d due))

-- ---- agreement
pub agrees_same : (j : ℕ) (v u : LbtsView) → TellsTheSame v u → Agrees j v → Agrees j u
agrees_same j v u t h = record {
  new = λ e. t.state ∙ h.new (sym t.request ∙ e) ∙ ap (λ (f : Parts). opening_state (federate_at f j)) (sym t.federation);
  whole = t.lines j ∙ h.whole ∙ ap lines_of (sym (t.blocks j));
  front = subst (λ (x : Parts × List Block). IsFront x.0 j x.1) (λ k. (sym t.federation k, sym (t.blocks j) k)) h.front;
  seat = λ r e.
      (λ k. seat_after (t.federation k) j (t.blocks j k)) ∙ h.seat r (sym t.request ∙ e)
      ∙ (λ k. record { now = sym t.time k; request = r; state = sym t.state k; got = sym t.delivered k });
}

none_started : {r : Request} → Some r ≡ None → ⊥
none_started {r} e = let t : false ≡ true = ap is_new e in (cc)

some_started : {a b : Request} → Some a ≡ Some b → a ≡ b
some_started {a} {b} h = cc

pub starts_agree : StartsAgree
starts_agree j v none empty h = record {
  new = λ e. absurd (none_started e);
  whole = h.whole;
  front = h.front;
  seat = λ r e.
      let f : Parts = v.federation in
      let no_blocks : blocks_in j v ≡ [] = ap (blocks_from j []) empty in
      let state : seat_at_start f j ≡ record { now = 0; request = request_at (view_after_start j v).state.wish 0 f.end; state = (view_after_start j v).state; got = [] } =
      ap (λ (s : State). record { now = 0; request = request_at (state_after f j Start 0 0 s).wish 0 f.end; state = state_after f j Start 0 0 s; got = [] }) (sym (h.new none)) in
      ap (seat_after f j) no_blocks ∙ state
      ∙ (λ k. record { now = sym (ap now_of empty) k; request = some_started e k; state = (view_after_start j v).state; got = sym (ap (filter_map delivery_of) empty) k });
}
