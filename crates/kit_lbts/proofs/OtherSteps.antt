-- Every step but a grant keeps agreement with the simulation.
use Rattle.std.proofs.Common.{◌≡◌, ◌≢◌, ℕ, zero, suc, ◌%◌, ◌==◌, ◌&&◌, not, ◌⊎◌, inl, inr, Bool, true, false, cond, List, [], ◌∷◌, ◌++◌, length, map, filter, Option, Some, None, refl, sym, ap, ◌∙◌, subst, true≢false}
use Rattle.std.specs.List.{filter_map, list_any}
use Rattle.std.proofs.lemmas.Bool.{ne_eqb}
use Rattle.std.proofs.lemmas.Grind.{flat_map-append}
use Rattle.std.proofs.lemmas.List.{append-nil, map-append}
use Rattle.std.proofs.lemmas.List.Elements.{filter_map-append}
use Rattle.kit_base.specs.declared.message.Kind.{Kind}
use Rattle.kit_base.specs.declared.message.Kind.TheVariants.{Event, Retraction}
use Rattle.kit_base.specs.declared.message.Message.{Message}
use Rattle.kit_base.specs.Words.{head_of}
use Rattle.kit_ground.specs.declared.address.Reg.{Reg}
use Rattle.kit_ground.specs.declared.place.Deed.{Deed}
use Rattle.kit_ground.specs.declared.place.Deed.TheVariants.{Looked, Published, Stopped, SawStop, SawFree, Wrote, Charged, PostedTo, Collected, ReadPart, Released}
use Rattle.kit_ground.specs.declared.place.Place.{Place}
use Rattle.kit_ground.specs.Steps.{place_after}
use Rattle.kit_ground.proofs.PlaceSteps.{each_after}
use Rattle.kit_model.specs.declared.journal.JournalEntry.TheVariants.{Received}
use Rattle.kit_model.specs.Journals.{line_told, lines_told, now_of}
use Rattle.kit_model.specs.Shares.{share_of}
use Rattle.kit_model.proofs.Lawful.{others_keep_the_time}
use Rattle.kit_queue.specs.Entries.{put_entry, without_buffer}
use Rattle.kit_rules.specs.declared.table.Request.{Request}
use Rattle.kit_lbts.specs.declared.view.InHand.{InHand}
use Rattle.kit_lbts.specs.declared.view.LbtsView.{LbtsView}
use Rattle.kit_lbts.specs.declared.view.Noted.{Noted}
use Rattle.kit_lbts.specs.declared.view.Scheme.{Scheme}
use Rattle.kit_lbts.specs.declared.view.Scheme.TheVariants.{Flat, Butterfly}
use Rattle.kit_lbts.specs.Views.{messages_delivered, delivery_of, entries_of, is_in_hand, is_new, is_orphan, is_spent}
use Rattle.kit_lbts.specs.Promises.{next_contribution}
use Rattle.kit_lbts.specs.Reduction.{share_with_taken, next_source, share_stage, sources}
use Rattle.kit_lbts.specs.Seats.{waits_in}
use Rattle.kit_lbts.specs.Progress.{view_after_close, view_after_close_if_flat, view_after_contribution, view_after_grant, head_in, is_under_way, view_after_look, message_in, own_share, view_after, put_down, view_when_ready, received_whole, shows_next, spent, view_after_start, taken_in}
use Rattle.kit_lbts.specs.Agreement.{Agrees, blocks_from, blocks_in}
use Rattle.kit_lbts.specs.AgreementLaws.{IsNoGrant, OthersAgree, TellsTheSame}
use Rattle.kit_lbts.proofs.Agreeing.{agrees_same, blocks_on, starts_agree}
use Rattle.kit_lbts.proofs.GrantAgreement.{without_agreement}

abbrev P : Type 0
P = Place LbtsView

tells_self : (v : LbtsView) → TellsTheSame v v
tells_self v = record { federation = refl; state = refl; request = refl; lines = λ j. refl; blocks = λ j. refl; time = refl; delivered = refl }

-- to close a round
closed_tells : (n j : ℕ) (v u : LbtsView) → TellsTheSame v u → TellsTheSame v (view_after_close n j u)
closed_tells n j v u h = by (is_under_way u && length u.taken == length (sources u.scheme n j))
  where
    by : (b : Bool) → TellsTheSame v (cond b (record u { results = u.results ++ share_with_taken u.scheme n j (own_share u) u.taken ∷ []; taken = [] }) u)
    by true = record { federation = h.federation; state = h.state; request = h.request; lines = h.lines; blocks = h.blocks; time = h.time; delivered = h.delivered }
    by false = h

looked_tells : (p : P) (r : Reg) (word : ℕ) → TellsTheSame p.client (view_after_look r word p)
looked_tells p r word = by (is_under_way p.client && shows_next (next_source p.client.scheme p.own.federates p.own.number (length p.client.taken)) (length p.client.contributions) r word)
  where
    by : (b : Bool) → TellsTheSame p.client (cond b (view_after_close p.own.federates p.own.number (record p.client { taken = p.client.taken ++ (share_of word).0 ∷ [] })) p.client)
    by true = closed_tells p.own.federates p.own.number p.client (record p.client { taken = p.client.taken ++ (share_of word).0 ∷ [] })
        (record { federation = refl; state = refl; request = refl; lines = λ j. refl; blocks = λ j. refl; time = refl; delivered = refl })
    by false = tells_self p.client

contributed_tells : (p : P) → TellsTheSame p.client (view_after_contribution p)
contributed_tells p = by p.client.scheme
  where
    by : (s : Scheme) → TellsTheSame p.client (view_after_close_if_flat s p.own.federates p.own.number (record p.client { contributions = p.client.contributions ++ next_contribution p ∷ []; taken = [] }))
    by Flat = closed_tells p.own.federates p.own.number p.client (record p.client { contributions = p.client.contributions ++ next_contribution p ∷ []; taken = [] })
        (record { federation = refl; state = refl; request = refl; lines = λ j. refl; blocks = λ j. refl; time = refl; delivered = refl })
    by Butterfly = record { federation = refl; state = refl; request = refl; lines = λ j. refl; blocks = λ j. refl; time = refl; delivered = refl }

put_down_tells : (i k : ℕ) (v : LbtsView) → TellsTheSame v (put_down i k v)
put_down_tells i k v = by (list_any (is_spent i k) v.spent)
  where
    by : (b : Bool) → TellsTheSame v (cond b (record v { spent = filter (λ s. not (is_spent i k s)) v.spent }) (record v { queue = map (λ e. cond (waits_in i k e) (without_buffer e) e) v.queue }))
    by true = record { federation = refl; state = refl; request = refl; lines = λ j. refl; blocks = λ j. refl; time = refl; delivered = refl }
    by false = record { federation = refl; state = refl; request = refl; lines = λ j. refl; blocks = λ j. refl; time = refl; delivered = refl }

-- a message is taken in
taken_tells : (kind : Kind) (i k : ℕ) (m : Message) (v u : LbtsView) → TellsTheSame v u → TellsTheSame v (taken_in kind i k m u)
taken_tells Event i k m v u h = by (list_any (is_orphan i m.number) u.orphans)
  where
    by : (b : Bool) → TellsTheSame v (cond b
        (record u { orphans = filter (λ o. not (is_orphan i m.number o)) u.orphans; spent = u.spent ++ spent i k ∷ [] })
        (record u { queue = put_entry (record { message = m; buffer = Some k }) u.queue }))
    by true = record { federation = h.federation; state = h.state; request = h.request; lines = h.lines; blocks = h.blocks; time = h.time; delivered = h.delivered }
    by false = record { federation = h.federation; state = h.state; request = h.request; lines = h.lines; blocks = h.blocks; time = h.time; delivered = h.delivered }
taken_tells Retraction i k m v u h = record { federation = h.federation; state = h.state; request = h.request; lines = h.lines; blocks = h.blocks; time = h.time; delivered = h.delivered }

-- a receipt is entered in the journal
entered_tells : (m : Message) (colour : ℕ) (hands : List InHand) (v : LbtsView)
    → TellsTheSame v (record v { in_hand = hands; journal = v.journal ++ record { entry = Received m; colour = colour } ∷ [] })
entered_tells m colour hands v =
    let more : map (λ (e : Noted). e.entry) (v.journal ++ record { entry = Received m; colour = colour } ∷ []) ≡ entries_of v ++ Received m ∷ [] =
    map-append (λ (e : Noted). e.entry) v.journal (record { entry = Received m; colour = colour } ∷ []) in
    record {
      federation = refl;
      state = refl;
      request = refl;
      lines = λ j. ap (lines_told j) more ∙ flat_map-append (line_told j) (entries_of v) (Received m ∷ []) ∙ append-nil (lines_told j (entries_of v));
      blocks = λ j. ap (blocks_from j []) more ∙ blocks_on j [] (entries_of v) (Received m ∷ []) ∙ append-nil (blocks_in j v);
      time = ap now_of more ∙ others_keep_the_time (entries_of v) (Received m) refl;
      delivered = ap (filter_map delivery_of) more ∙ filter_map-append delivery_of (entries_of v) (Received m ∷ []) ∙ append-nil (messages_delivered v);
    }

received_tells : (i k body : ℕ) (v : LbtsView) → TellsTheSame v (received_whole i k body v)
received_tells i k body v =
    let head : ℕ = head_in i k v.in_hand in
    let m : Message = message_in i head body in
    let hands : List InHand = filter (λ (h : InHand). not (is_in_hand i k h)) v.in_hand in
    let colour : ℕ = (head_of head).colour in
    taken_tells m.kind i k m v (record v { in_hand = hands; journal = v.journal ++ record { entry = Received m; colour = colour } ∷ [] }) (entered_tells m colour hands v)

-- what a step tells is what was known, or what is known once the start's rules have run
abbrev Tells : Deed → P → Type 0
Tells deed p = TellsTheSame p.client (view_after deed p) ⊎ TellsTheSame (view_when_ready p.own.number p.client) (view_after deed p)

published_tells : (p : P) (r : Reg) (word : ℕ) → r.slot ≢ 12 → Tells (Published r word) p
published_tells p r word other = by (r.slot == 12) (ne_eqb r.slot 12 other) (r.slot % 6 == share_stage) (r.slot % 6 == 0)
  where
    by : (a : Bool) → a ≡ false → (b c : Bool)
        → TellsTheSame p.client (cond a (view_after_grant p.own.number word p.client) (cond b (view_after_contribution (record p { client = view_when_ready p.own.number p.client })) (cond c (view_after_close p.own.federates p.own.number p.client) p.client)))
        ⊎ TellsTheSame (view_when_ready p.own.number p.client) (cond a (view_after_grant p.own.number word p.client) (cond b (view_after_contribution (record p { client = view_when_ready p.own.number p.client })) (cond c (view_after_close p.own.federates p.own.number p.client) p.client)))
    by true e b c = absurd (true≢false e)
    by false e true c = inr (contributed_tells (record p { client = view_when_ready p.own.number p.client }))
    by false e false true = inl (closed_tells p.own.federates p.own.number p.client p.client (tells_self p.client))
    by false e false false = inl (tells_self p.client)

deed_tells : (p : P) (deed : Deed) → IsNoGrant deed → Tells deed p
deed_tells p (Looked r word) h = inl (looked_tells p r word)
deed_tells p (Published r word) h = published_tells p r word h
deed_tells p Stopped h = inl (tells_self p.client)
deed_tells p (SawStop set) h = inl (tells_self p.client)
deed_tells p (SawFree k free) h = inl (tells_self p.client)
deed_tells p (Wrote k part word) h = inl (tells_self p.client)
deed_tells p (Charged k mask) h = inl (record { federation = refl; state = refl; request = refl; lines = λ j. refl; blocks = λ j. refl; time = refl; delivered = refl })
deed_tells p (PostedTo k j) h = inl (record { federation = refl; state = refl; request = refl; lines = λ j. refl; blocks = λ j. refl; time = refl; delivered = refl })
deed_tells p (Collected i word mail) h = inr (record { federation = refl; state = refl; request = refl; lines = λ j. refl; blocks = λ j. refl; time = refl; delivered = refl })
deed_tells p (ReadPart i k zero word) h = inl (record { federation = refl; state = refl; request = refl; lines = λ j. refl; blocks = λ j. refl; time = refl; delivered = refl })
deed_tells p (ReadPart i k (suc part) word) h = inl (received_tells i k word p.client)
deed_tells p (Released i k) h = inl (put_down_tells i k p.client)

-- once its start's rules have run, a federate agrees
ready_agrees : (j : ℕ) (v : LbtsView) → (v.request ≡ None → entries_of v ≡ []) → Agrees j v → Agrees j (view_when_ready j v)
ready_agrees j v none h = by v.request refl
  where
    by : (o : Option Request) → v.request ≡ o → Agrees j (view_when_ready j v)
    by None e = subst (λ (b : Bool). Agrees j (cond b (view_after_start j v) v)) (sym (ap is_new e)) (starts_agree j v e (none e) h)
    by (Some r) e = subst (λ (b : Bool). Agrees j (cond b (view_after_start j v) v)) (sym (ap is_new e)) h

pub others_agree : OthersAgree
others_agree p a deed no_grant keeps m places w =
    let k = keeps m places (without_agreement p m places w) in
    let me : ℕ = p.own.number in
    let old : Agrees me p.client = w.client.agree me p w.here in
    let none : p.client.request ≡ None → entries_of p.client ≡ [] = λ e. ap (λ (l : List Noted). map (λ (x : Noted). x.entry) l) ((w.client.floor.each me p w.here).sends.new e).2 in
    let now : Agrees me (view_after (deed (m a)) p) = elim (deed_tells p (deed (m a)) (no_grant (m a))) [
      | inl t ↦ agrees_same me p.client (view_after (deed (m a)) p) t old
      | inr t ↦ agrees_same me (view_when_ready me p.client) (view_after (deed (m a)) p) t (ready_agrees me p.client none old)
    ] in
    record {
      client = record {
        floor = k.client;
        agree = each_after (λ i (r : P). Agrees i r.client) places me (place_after view_after (deed (m a)) p) now (λ i r other at. w.client.agree i r at);
      };
      guests = λ g sees. tt;
    }
