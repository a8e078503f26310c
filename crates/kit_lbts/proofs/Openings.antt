-- The rule holds at the opening.
use Rattle.std.proofs.Common.{◌≡◌, ℕ, ◌+◌, ◌%◌, ◌<◌, Bool, true, false, cond, inl, List, length, get_or, replicate, Some, None, arith, refl, sym, ap, ◌∙◌, subst, subst₂}
use Rattle.std.specs.Int.{bit_at}
use Rattle.std.specs.Prelude.{slice_index_or}
use Rattle.std.proofs.lemmas.List.{length-replicate}
use Rattle.std.proofs.lemmas.List.Elements.{All-nil}
use Rattle.std.proofs.lemmas.Nat.Bits.{bit_at-zero}
use mathlib.Core.Option.{some}
use lib.ListN.{get_elem?}
use Rattle.kit_ground.specs.declared.place.Place.{Place}
use Rattle.kit_ground.specs.Rules.{zero_memory, places_at_first, own_at_first}
use Rattle.kit_ground.specs.Steps.{buffer_of, fresh_buffer}
use Rattle.kit_ground.proofs.Lists.{same_everywhere, at_or, at_inside, at_map_or}
use Rattle.kit_ground.proofs.Sums.{sum_zero}
use Rattle.kit_ground.proofs.Starts.{client_at_first, length_places_from}
use Rattle.kit_rules.specs.Federation.{IsFederation}
use Rattle.kit_rules.specs.Parts.{Parts, nobody}
use Rattle.kit_model.proofs.Lawful.{empty_is_lawful}
use Rattle.std.proofs.lemmas.Option.{none-some}
use Rattle.std.specs.List.{IsDistinct}
use Rattle.std.specs.List.Sorted.{IsStrictlySortedBy}
use Rattle.kit_rounds.specs.Ledgers.{Ledger, blank as no_ledger}
use Rattle.kit_rounds.proofs.Opening.{new_ledgers_keep}
use Rattle.kit_lbts.specs.declared.lbts.Opening.{Opening}
use Rattle.kit_lbts.specs.declared.view.Filled.{Filled}
use Rattle.kit_lbts.specs.declared.view.LbtsView.{LbtsView}
use Rattle.kit_lbts.specs.Promises.{ledger_of, ledgers_of}
use Rattle.kit_lbts.specs.Registers.{Registers, Learnt}
use Rattle.kit_lbts.specs.Letters.{Letters, letter_in}
use Rattle.kit_lbts.specs.Ways.{WayBetween, mark_in_mail}
use Rattle.kit_lbts.specs.Seats.{Holdings, Queue, Receiving, Granting, Sends}
use Rattle.kit_lbts.specs.Progress.{lbts_first}
use Rattle.kit_lbts.specs.Rule.{Common, FederateRule, RoundsHold, LbtsRule}
use Rattle.kit_lbts.specs.Openings.{OpeningsHold}

module _ (o : Opening) (sound : IsFederation o.federation.value) where
  abbrev f : Parts
  f = o.federation.value

  abbrev n : ℕ
  n = length f.federates

  abbrev places : List (Place LbtsView)
  places = places_at_first (lbts_first o) n f.buffers

  -- the place of the federate j
  abbrev seat : ℕ → Place LbtsView
  seat j = record { own = own_at_first n f.buffers j; client = lbts_first o j }

  pub is_seat : (j : ℕ) (p : Place LbtsView) → get_elem? places j ≡ some p → seat j ≡ p
  is_seat j p at =
      let is = client_at_first (lbts_first o) n f.buffers j p at in
      ap (λ own. record { own = own; client = lbts_first o j }) (sym is.1) ∙ ap (λ v. record { own = p.own; client = v }) (sym is.0)

  many : length places ≡ n
  many = length_places_from (lbts_first o) n f.buffers 0 n

  common : Common places
  common = record {
    federation = f;
    scheme = o.scheme;
    sound = sound;
    many = many;
    each = λ j p at. subst (λ (q : Place LbtsView). (q.client.federation ≡ f) × (q.client.scheme ≡ o.scheme) × (q.own.buffers ≡ f.buffers)) (is_seat j p at) (refl, refl, refl);
  }

  registers : (ledgers : ℕ → Ledger) (m j : ℕ) → Registers zero_memory m ledgers j (seat j)
  registers ledgers m j = record { now = λ s lt shown. inl refl; before = λ s lt shown. refl; unused = λ s round lt none. refl; clock = refl; lows = All-nil _ }

  learnt : (ledgers : ℕ → Ledger) (m j : ℕ) → Learnt m ledgers j (seat j)
  learnt ledgers m j = record {
    under_way = inl refl;
    fresh = λ _. refl;
    few = omega arith;
    taken = λ l lt. absurd (omega (arith, lt));
    results = λ k lt. absurd (omega (arith, lt));
  }

  none_owed : (j k : ℕ) → (buffer_of (seat j).own.stock k).to_post ≡ 0
  none_owed j k = ap (λ (b : _). b.to_post) (same_everywhere f.buffers k fresh_buffer)

  letters : (j : ℕ) → Letters zero_memory j (seat j)
  letters j = record {
    sized = length-replicate f.buffers None;
    counted = λ k lt on. absurd (omega (arith, on));
    sending = λ k is. absurd (none-some k is);
    others = λ k ne. absurd (ne (none_owed j k));
  }

  holdings : (j : ℕ) → Holdings (seat j)
  holdings j = record {
    each = λ i k lt small. ap (λ w. bit_at w k) (same_everywhere n i 0) ∙ bit_at-zero k;
    in_hand = All-nil _;
    queue = All-nil _;
    spent = All-nil _;
  }

  queue : (j : ℕ) → Queue j (seat j)
  unfolding IsStrictlySortedBy IsDistinct
  queue j = record { ordered = tt; apart = tt; is = refl; ahead = All-nil _; settled = All-nil _ }

  heard : (j : ℕ) → Receiving (seat j).client
  heard j = record { orphans = λ i k. refl; came = All-nil _; past = All-nil _ }

  granting : (j : ℕ) → j < n → Granting (seat j)
  granting j lt = record {
    lawful = empty_is_lawful;
    below = tt;
    within = omega arith;
    wish = (sound.federates.each j nobody lt).advance;
    asked = λ r e low. absurd (none-some r e);
  }

  sends : (j : ℕ) → Sends j (seat j)
  sends j = record {
    own = All-nil _;
    numbered = λ k lt. absurd (omega (arith, lt));
    next = refl;
    timed = All-nil _;
    takes_back = record { target = All-nil _; once = All-nil _ };
    waiting = All-nil _;
    late = All-nil _;
    transported = All-nil _;
    behind = (0, refl);
    once =
        let nothing : (k : ℕ) (x : Filled) → slice_index_or (replicate f.buffers None) k None ≡ Some x → ⊥ = λ k x e. none-some x (sym (same_everywhere f.buffers k None) ∙ e) in
        record { sent = λ k x e. absurd (nothing k x e); gone = λ k x e. absurd (nothing k x e); apart = λ k l x y ne e. absurd (nothing k x e) };
    each = λ i lt. refl;
    receivers = All-nil _;
    coloured = All-nil _;
    few = omega arith;
    new = λ none. (refl, refl, refl, refl, refl, refl);
  }

  ways : (i j : ℕ) → WayBetween zero_memory i j (seat i) (seat j)
  ways i j = record {
    copies = λ t. sym (ap (λ (x : ℕ). 0 + x) (sum_zero (λ k. cond (t (letter_in (seat i).client k)) (mark_in_mail zero_memory i j k + 0) 0) f.buffers (λ k lk. none (t (letter_in (seat i).client k)) (mark_in_mail zero_memory i j k) (bit_at-zero (k % 64)))));
    heads = All-nil _;
    lies = All-nil _;
  }
    where
      none : (b : Bool) (x : ℕ) → x ≡ 0 → cond b (x + 0) 0 ≡ 0
      none true x e = omega arith
      none false x e = refl

  ledger_at : (j : ℕ) → j < length places → ledgers_of places j ≡ ledger_of (seat j)
  ledger_at j lt =
      let at = at_or places j (seat j) lt in
      at_map_or ledger_of places j (get_or places j (seat j)) no_ledger at ∙ ap ledger_of (sym (is_seat j (get_or places j (seat j)) at))

  rounds : RoundsHold places
  rounds = (
    0,
    new_ledgers_keep (length places) (ledgers_of places)
        (λ j lt. ap (λ (l : Ledger). l.colour) (ledger_at j lt)) (λ j lt. ap (λ (l : Ledger). l.posted) (ledger_at j lt))
        (λ j lt. ap (λ (l : Ledger). l.received) (ledger_at j lt)) (λ j lt. ap (λ (l : Ledger). l.contributions) (ledger_at j lt)),
  )

  pub opens : LbtsRule zero_memory places
  opens = record {
    common = common;
    each = λ j p at.
        let lt : j < n = omega (arith, at_inside places j p at, many) in
        subst (λ q. FederateRule zero_memory places j q) (is_seat j p at)
        (record {
          registers = registers (ledgers_of places) (length places) j;
          learnt = learnt (ledgers_of places) (length places) j;
          letters = letters j;
          holdings = holdings j;
          queue = queue j;
          heard = heard j;
          granting = granting j lt;
          sends = sends j;
        });
    ways = λ i j p q here there. subst₂ (λ x y. WayBetween zero_memory i j x y) (is_seat i p here) (is_seat j q there) (ways i j);
    rounds = rounds;
  }

pub openings_hold : OpeningsHold
openings_hold = λ o sound. opens o sound
