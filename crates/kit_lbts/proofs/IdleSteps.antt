-- Steps that tell the view nothing: a part is written, a count is looked at.
use Rattle.std.proofs.Common.{◌≡◌, ℕ, ◌/◌, ◌%◌, ◌<◌, ◌==◌, List, length, refl, sym, ap, ◌∙◌, subst, arith}
use Rattle.std.specs.Prelude.{slice_index, slice_set, map, ◌++◌}
use Rattle.std.specs.Int.{bit_at}
use Rattle.kit_ground.specs.declared.address.Address.TheVariants.{Register, Mail, Count, Part, Stop}
use Rattle.kit_ground.specs.declared.address.Reg.{Reg}
use Rattle.kit_ground.specs.declared.place.Deed.{Deed}
use Rattle.kit_ground.specs.declared.place.Deed.TheVariants.{Wrote, SawFree, SawStop, Stopped}
use Rattle.kit_ground.specs.declared.place.Place.{Place}
use Rattle.kit_ground.specs.Memory.{Memory, with_word}
use Rattle.kit_ground.specs.Rules.{RuleStays, World}
use Rattle.kit_ground.specs.Steps.{place_after, buffer_of, own_after, stock_after, buffer_after_look, buffer_after_write}
use Rattle.kit_ground.proofs.Memories.{part_else, stored_same}
use Rattle.kit_ground.proofs.PlaceFacts.{buffers_wide, free_uncounted}
use Rattle.kit_base.specs.declared.message.Message.{Message}
use Rattle.kit_lbts.specs.declared.view.Filled.{Filled}
use Rattle.kit_lbts.specs.declared.view.LbtsView.{LbtsView}
use Rattle.kit_lbts.specs.Letters.{Letters}
use Rattle.kit_lbts.specs.Seats.{Holdings, Queue, Receiving, Granting, Sends}
use Rattle.kit_lbts.specs.Ways.{Way, mark_in_mail, letters_posted_to}
use Rattle.kit_lbts.specs.Views.{time_of}
use Rattle.kit_lbts.specs.Promises.{ledger_of}
use Rattle.kit_lbts.specs.Progress.{view_after}
use Rattle.kit_lbts.specs.Rule.{lbts_rule}
use Rattle.kit_lbts.specs.StepLaws.{StopLooksKeep, StopsKeep}
use Rattle.kit_lbts.specs.MessageLaws.{WritesKeep, CountLooksKeep}
use Rattle.kit_rounds.specs.Steps.{Rises}
use Rattle.kit_lbts.proofs.Changes.{Changed, kept, mine, said, still}
use Rattle.kit_lbts.proofs.LetterFacts.{letters_aside, letter_still}
use Rattle.kit_lbts.proofs.Owing.{OweTheSame, left_same, owes_still, written_owes}
use Rattle.kit_lbts.proofs.RoundSteps.{rises_keep_rounds}
use Rattle.kit_lbts.proofs.Ways.{got, sent, way_still}

abbrev P : Type 0
P = Place LbtsView

-- what such a step leaves
pub record Leaves (p : P) (m now : Memory) (deed : Deed) : Type 0 where
  pub view : view_after deed p ≡ p.client
  pub owes : OweTheSame (stock_after deed p.own.stock) p.own.stock
  pub holds : (stock_after deed p.own.stock).holds ≡ p.own.stock.holds
  pub registers : (r : Reg) → now (Register r) ≡ m (Register r)
  pub mail : (j i word : ℕ) → now (Mail j i word) ≡ m (Mail j i word)
  pub counts : (i k : ℕ) → now (Count i k) ≡ m (Count i k)
  pub words : (i k x : ℕ) → k < p.own.buffers → 0 < m (Count i k) → now (Part i k x) ≡ m (Part i k x)

module _ (p : P) (m : Memory) (places : List P) (w : World lbts_rule p m places) (now : Memory) (deed : Deed) (leaves : Leaves p m now deed) where
  abbrev with : LbtsView → P
  with v = record { own = own_after deed p.own; client = v }

  more : (i k : ℕ) → 0 < now (Count i k) → 0 < m (Count i k)
  more i k on = subst (λ (c : ℕ). 0 < c) (leaves.counts i k) on

  letters : Letters now p.own.number (with p.client)
  letters =
      let old = (mine p m places w now deed).letters in
      record {
        sized = old.sized;
        counted = λ k lk on. letter_still m now p.own.number k _ (λ x. leaves.words p.own.number k x lk (more p.own.number k on)) (old.counted k lk (more p.own.number k on));
        sending = λ k is. let h = old.sending k is in record { first = h.first; rest = h.rest; within = h.within; outbox = h.outbox; owed = λ e. h.owed (sym (leaves.owes k) ∙ e); filled = h.filled };
        others = λ k owed. old.others k (λ e. owed (leaves.owes k ∙ e));
      }

  holdings : Holdings (with p.client)
  holdings =
      let old = (mine p m places w now deed).holdings in
      record { each = λ i k li lk. ap (λ (hs : List ℕ). bit_at (slice_index hs i) k) leaves.holds ∙ old.each i k li lk; in_hand = old.in_hand; queue = old.queue; spent = old.spent }

  queue : Queue p.own.number (with p.client)
  queue = let old = (mine p m places w now deed).queue in record { ordered = old.ordered; apart = old.apart; is = old.is; ahead = old.ahead; settled = old.settled }

  granting : Granting (with p.client)
  granting = let old = (mine p m places w now deed).granting in record { lawful = old.lawful; below = old.below; within = old.within; wish = old.wish; asked = old.asked }

  sends : Sends p.own.number (with p.client)
  sends =
      let old = (mine p m places w now deed).sends in
      record {
        own = old.own;
        numbered = old.numbered;
        next = old.next;
        timed = old.timed;
        takes_back = old.takes_back;
        waiting = old.waiting;
        late = old.late;
        transported = old.transported;
        behind = old.behind;
        once = old.once;
        each = λ i li. old.each i li ∙ ap (λ (l : List Message). map (λ (f : Filled). f.message) (letters_posted_to i p.client) ++ l) (sym (left_same p.client.sending (stock_after deed p.own.stock) p.own.stock p.client.federation i p.client.outbox leaves.owes));
        receivers = old.receivers;
        coloured = old.coloured;
        few = old.few;
        new = old.new;
      }

  changed : Changed p m places w now deed
  changed = record {
    letters = subst (λ (v : LbtsView). Letters now p.own.number (with v)) (sym leaves.view) letters;
    others = λ i r other at.
        let own = w.floor.each i r at in
        letters_aside m now i r (λ k lk. more i k) (λ k x lk. leaves.words i k x (subst (λ (b : ℕ). k < b) own.buffers lk)) (w.client.each i r at).letters;
    holdings = subst (λ (v : LbtsView). Holdings (with v)) (sym leaves.view) holdings;
    queue = subst (λ (v : LbtsView). Queue p.own.number (with v)) (sym leaves.view) queue;
    heard = subst Receiving (sym leaves.view) (mine p m places w now deed).heard;
    granting = subst (λ (v : LbtsView). Granting (with v)) (sym leaves.view) granting;
    sends = subst (λ (v : LbtsView). Sends p.own.number (with v)) (sym leaves.view) sends;
    ways = λ i j r s ti tj.
        let q = place_after view_after deed p in
        let vr = still (λ (x : P). x.client) places p.own.number p q leaves.view i r ti in
        let vs = still (λ (x : P). x.client) places p.own.number p q leaves.view j s tj in
        let b = still (λ (x : P). x.own.buffers) places p.own.number p q refl i r ti in
        subst (λ (n : ℕ). Way n (mark_in_mail now i j) i j r.client s.client) (sym b)
        (way_still ti.before.own.buffers (mark_in_mail m i j) (mark_in_mail now i j) i j ti.before.client tj.before.client r.client s.client
        (λ k lk. ap (λ (x : ℕ). bit_at x (k % 64)) (leaves.mail j i (k / 64))) (ap (sent j) vr) (ap got vs) (w.client.ways i j ti.before tj.before ti.at tj.at));
    rounds = rises_keep_rounds places p.own.number p (place_after view_after deed p) w.here w.client.rounds
        (subst (λ (v : LbtsView). Rises (ledger_of p) (ledger_of (with v))) (sym leaves.view) (record { rises = omega arith; is = refl }));
  }

  pub idle : RuleStays lbts_rule m places now (slice_set places p.own.number (place_after view_after deed p))
  idle = kept p m places w now deed (record { words = leaves.registers; federation = ap (λ (v : LbtsView). v.federation) leaves.view; same = ap said leaves.view; time = ap time_of leaves.view }) changed

pub writes_keep : WritesKeep lbts_rule
writes_keep p k part word lk free m places w =
    let me : ℕ = p.own.number in
    let none : m (Count me k) ≡ 0 = free_uncounted p.own.buffers m places w.floor me p w.here k lk free in
    let long : length p.own.stock.buffers ≡ p.own.buffers = buffers_wide p.own.buffers m places w.floor me p w.here in
    idle p m places w (with_word m (Part me k part) word) (Wrote k part word) (record {
      view = refl;
      owes = owes_still p.own.stock k (buffer_after_write part word (buffer_of p.own.stock k)) (omega arith) (written_owes part word (buffer_of p.own.stock k));
      holds = refl;
      registers = λ r. refl;
      mail = λ j i u. refl;
      counts = λ i y. refl;
      words = λ i y x ly on. part_else m me k part i y x word (λ a e. absurd (let z : m (Count i y) ≡ 0 = (λ t. m (Count (a t) (e t))) ∙ none in omega arith));
    })

pub count_looks_keep : CountLooksKeep lbts_rule
count_looks_keep p k lk m places w =
    let me : ℕ = p.own.number in
    let free = m (Count me k) == 0 in
    let long : length p.own.stock.buffers ≡ p.own.buffers = buffers_wide p.own.buffers m places w.floor me p w.here in
    idle p m places w (with_word m (Count me k) (m (Count me k))) (SawFree k free) (record {
      view = refl;
      owes = owes_still p.own.stock k (buffer_after_look free (buffer_of p.own.stock k)) (omega arith) refl;
      holds = refl;
      registers = λ r. refl;
      mail = λ j i u. refl;
      counts = λ i y. ap (λ (x : Memory). x (Count i y)) (stored_same m (Count me k));
      words = λ i y x ly on. refl;
    })

pub stop_looks_keep : StopLooksKeep lbts_rule
stop_looks_keep p m places w =
    idle p m places w (with_word m Stop (m Stop)) (SawStop (m Stop == 1)) (record {
      view = refl;
      owes = λ x. refl;
      holds = refl;
      registers = λ r. refl;
      mail = λ j i u. refl;
      counts = λ i y. refl;
      words = λ i y x ly on. refl;
    })

pub stops_keep : StopsKeep lbts_rule
stops_keep p m places w =
    idle p m places w (with_word m Stop 1) Stopped (record {
      view = refl;
      owes = λ x. refl;
      holds = refl;
      registers = λ r. refl;
      mail = λ j i u. refl;
      counts = λ i y. refl;
      words = λ i y x ly on. refl;
    })
