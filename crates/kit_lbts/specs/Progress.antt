-- What each step does to the view of the federate that makes it, and the view at first.
use Rattle.std.specs.Prelude.{◌==◌, ℕ, zero, suc, ◌-◌, ◌/◌, ◌%◌, ◌^◌, nat_lt, nat_le, Bool, false, ◌&&◌, not, if◌then◌else◌, List, [], ◌∷◌, ◌++◌, length, map, filter, find, drop, replicate, slice_set, slice_index_or, Option, Some, None, is_some, unwrap_or}
use Rattle.std.specs.List.{range_with_len, list_any}
use Rattle.std.specs.Option.{option_and_then}
use Rattle.kit_base.specs.declared.message.Kind.{Kind}
use Rattle.kit_base.specs.declared.message.Kind.TheVariants.{Event, Retraction}
use Rattle.kit_base.specs.declared.message.Message.{Message}
use Rattle.kit_base.specs.Words.{head_of, body_of}
use Rattle.kit_ground.specs.declared.address.Reg.{Reg}
use Rattle.kit_ground.specs.declared.place.Deed.{Deed}
use Rattle.kit_ground.specs.declared.place.Deed.TheVariants.{Looked, Published, Charged, PostedTo, Collected, ReadPart, Released}
use Rattle.kit_ground.specs.declared.place.Place.{Place}
use Rattle.kit_ground.specs.Steps.{buffer_of}
use Rattle.kit_model.specs.declared.journal.JournalEntry.{JournalEntry}
use Rattle.kit_model.specs.declared.journal.JournalEntry.TheVariants.{Received, Delivered, Granted}
use Rattle.kit_model.specs.declared.share.Share.{Share}
use Rattle.kit_model.specs.Shares.{share_of}
use Rattle.kit_queue.specs.declared.entry.Entry.{Entry}
use Rattle.kit_queue.specs.Entries.{messages_of, put_entry, entry_of, entries_without, without_buffer}
use Rattle.kit_rules.specs.declared.table.Trigger.TheVariants.{Start}
use Rattle.kit_rules.specs.Parts.{federate_at}
use Rattle.kit_rules.specs.Step.{state_after, opening_state}
use Rattle.kit_rules.specs.Delivery.{has_bit, is_transported}
use Rattle.kit_rules.specs.Simulation.{request_at, after_block}
use Rattle.kit_rounds.specs.Ledgers.{nothing}
use Rattle.kit_lbts.specs.declared.lbts.Opening.{Opening}
use Rattle.kit_lbts.specs.declared.view.Scheme.{Scheme}
use Rattle.kit_lbts.specs.declared.view.Scheme.TheVariants.{Flat, Butterfly}
use Rattle.kit_lbts.specs.declared.view.Noted.{Noted}
use Rattle.kit_lbts.specs.declared.view.Filled.{Filled}
use Rattle.kit_lbts.specs.declared.view.InHand.{InHand}
use Rattle.kit_lbts.specs.declared.view.Orphan.{Orphan}
use Rattle.kit_lbts.specs.declared.view.Spent.{Spent}
use Rattle.kit_lbts.specs.declared.view.LbtsView.{LbtsView}
use Rattle.kit_lbts.specs.Views.{is_new, is_in_hand, is_spent, is_orphan}
use Rattle.kit_lbts.specs.Letters.{letter_in, letter_of}
use Rattle.kit_lbts.specs.Seats.{waits_in}
use Rattle.kit_lbts.specs.Promises.{next_contribution}
use Rattle.kit_lbts.specs.Reduction.{Source, share_stage, reg_of, sources, next_source, share_with_taken}

-- the view of the federate k at first
abbrev pub lbts_first : Opening → ℕ → LbtsView
lbts_first o k = record {
  federation = o.federation.value;
  scheme = o.scheme;
  journal = [];
  state = opening_state (federate_at o.federation.value k);
  request = None;
  outbox = [];
  sending = None;
  posted = [];
  filled = replicate o.federation.value.buffers None;
  queue = [];
  in_hand = [];
  orphans = [];
  spent = [];
  contributions = [];
  taken = [];
  results = [];
}

-- the start's rules have run
abbrev pub view_after_start : ℕ → LbtsView → LbtsView
view_after_start j v =
    let s = state_after v.federation j Start 0 0 v.state in
    record v { state = s; request = Some (request_at s.wish 0 v.federation.end); outbox = filter (is_transported v.federation) s.sends }

-- they run before the first step that needs them
abbrev pub view_when_ready : ℕ → LbtsView → LbtsView
view_when_ready j v = if is_new v.request then view_after_start j v else v

-- the buffers of a mail word, in ascending order
abbrev pub buffers_in : ℕ → ℕ → ℕ → List ℕ
buffers_in buffers word mail = filter (λ k. k / 64 == word && has_bit mail (k % 64)) (range_with_len 0 buffers)

abbrev pub in_hand : ℕ → ℕ → InHand
in_hand i k = record { from = i; buffer = k; head = None }

-- a mail word of i was collected
abbrev pub view_after_collect : ℕ → ℕ → ℕ → ℕ → LbtsView → LbtsView
view_after_collect buffers i word mail v = record v { in_hand = v.in_hand ++ map (in_hand i) (buffers_in buffers word mail) }

-- the head of a copy was read
abbrev pub with_head : ℕ → ℕ → ℕ → LbtsView → LbtsView
with_head i k word v = record v { in_hand = map (λ (h : InHand). if is_in_hand i k h then record h { head = Some word } else h) v.in_hand }

abbrev pub head_in : ℕ → ℕ → List InHand → ℕ
head_in i k hs = unwrap_or (option_and_then (λ (h : InHand). h.head) (find (is_in_hand i k) hs)) 0

-- the message that two words tell
abbrev pub message_in : ℕ → ℕ → ℕ → Message
message_in i head body =
    let h = head_of head in
    let b = body_of body in
    record { time = b.0; sender = i; number = h.number; kind = h.kind; group = h.group; value = b.1 }

abbrev pub orphan : ℕ → ℕ → Orphan
orphan i n = record { from = i; number = n }

abbrev pub spent : ℕ → ℕ → Spent
spent i k = record { from = i; buffer = k }

abbrev pub spent_buffer : ℕ → Option ℕ → List Spent
spent_buffer i None = []
spent_buffer i (Some k) = spent i k ∷ []

abbrev pub spent_entry : ℕ → Option Entry → List Spent
spent_entry i None = []
spent_entry i (Some e) = spent_buffer i e.buffer

-- an Event is taken in with its buffer: it waits, unless its Retraction came before
abbrev pub event_in : ℕ → ℕ → Message → LbtsView → LbtsView
event_in i k m v =
    if list_any (is_orphan i m.number) v.orphans
    then record v { orphans = filter (λ o. not (is_orphan i m.number o)) v.orphans; spent = v.spent ++ spent i k ∷ [] }
    else record v { queue = put_entry (record { message = m; buffer = Some k }) v.queue }

-- a Retraction takes its target back out of the queue, or makes it an orphan
abbrev pub retraction_in : ℕ → ℕ → Message → LbtsView → LbtsView
retraction_in i k m v = record v {
  queue = entries_without i m.value v.queue;
  orphans = if is_some (entry_of i m.value v.queue) then v.orphans else v.orphans ++ orphan i m.value ∷ [];
  spent = v.spent ++ spent i k ∷ spent_entry i (entry_of i m.value v.queue);
}

abbrev pub taken_in : Kind → ℕ → ℕ → Message → LbtsView → LbtsView
taken_in Event i k m v = event_in i k m v
taken_in Retraction i k m v = retraction_in i k m v

abbrev pub note_of : JournalEntry → Noted
note_of e = record { entry = e; colour = 0 }

-- the body of a copy was read: the copy is received
abbrev pub received_whole : ℕ → ℕ → ℕ → LbtsView → LbtsView
received_whole i k body v =
    let head = head_in i k v.in_hand in
    let m = message_in i head body in
    let v' = record v { in_hand = filter (λ h. not (is_in_hand i k h)) v.in_hand; journal = v.journal ++ record { entry = Received m; colour = (head_of head).colour } ∷ [] } in
    taken_in m.kind i k m v'

-- a buffer was released: one that was spent, or that of a message that waits on without it
abbrev pub put_down : ℕ → ℕ → LbtsView → LbtsView
put_down i k v =
    if list_any (is_spent i k) v.spent then record v { spent = filter (λ s. not (is_spent i k s)) v.spent }
    else record v { queue = map (λ e. if waits_in i k e then without_buffer e else e) v.queue }

-- a buffer was charged with the first message of the outbox
abbrev pub first_letter : LbtsView → List Message → Option Filled
first_letter v [] = None
first_letter v (m ∷ ms) = Some (letter_of v m)

abbrev pub with_letter : ℕ → LbtsView → LbtsView
with_letter k v = record v { filled = slice_set v.filled k (first_letter v v.outbox); sending = Some k }

-- and posted to j, where it was still to be posted to these; with the last post the message leaves the outbox
abbrev pub with_post : ℕ → ℕ → ℕ → LbtsView → LbtsView
with_post k j to_post v = record v {
  posted = v.posted ++ record { to = j; filled = letter_in v k } ∷ [];
  outbox = if to_post == 2 ^ j then drop 1 v.outbox else v.outbox;
  sending = if to_post == 2 ^ j then None else v.sending;
}

-- the time d was granted
abbrev pub due_in : ℕ → List Entry → List Message
due_in d queue = messages_of (filter (λ (e : Entry). nat_le e.message.time d) queue)

abbrev pub view_after_grant : ℕ → ℕ → LbtsView → LbtsView
view_after_grant j d v =
    let due = due_in d v.queue in
    let s = after_block v.federation j d v.state due in
    record v {
      journal = v.journal ++ map (λ m. note_of (Delivered d m)) due ++ note_of (Granted d) ∷ [];
      state = s;
      request = if nat_lt d v.federation.end then Some (request_at s.wish d v.federation.end) else v.request;
      outbox = v.outbox ++ filter (is_transported v.federation) (drop (length v.state.sends) s.sends);
      queue = filter (λ (e : Entry). nat_lt d e.message.time) v.queue;
    }

-- a round is under way
abbrev pub is_under_way : LbtsView → Bool
is_under_way v = length v.results == length v.contributions - 1 && nat_lt 0 (length v.contributions)

abbrev pub own_share : LbtsView → Share
own_share v = (slice_index_or v.contributions (length v.contributions - 1) nothing).share

-- the result is there where all places are taken in
abbrev pub view_after_close : ℕ → ℕ → LbtsView → LbtsView
view_after_close n j v =
    if is_under_way v && length v.taken == length (sources v.scheme n j)
    then record v { results = v.results ++ share_with_taken v.scheme n j (own_share v) v.taken ∷ []; taken = [] } else v

abbrev pub view_after_close_if_flat : Scheme → ℕ → ℕ → LbtsView → LbtsView
view_after_close_if_flat Flat n j v = view_after_close n j v
view_after_close_if_flat Butterfly n j v = v

-- the federate contributed to its next round
abbrev pub view_after_contribution : Place LbtsView → LbtsView
view_after_contribution p =
    let v = record p.client { contributions = p.client.contributions ++ next_contribution p ∷ []; taken = [] } in
    view_after_close_if_flat v.scheme p.own.federates p.own.number v

-- a register was looked at that is the next to be taken in, and it showed the round
abbrev pub shows_next : Option Source → ℕ → Reg → ℕ → Bool
shows_next None round r word = false
shows_next (Some s) round r word =
    let reg = reg_of s.owner s.stage round in
    r.owner == reg.owner && r.slot == reg.slot && word / 2 ^ 61 == round % 8

abbrev pub view_after_look : Reg → ℕ → Place LbtsView → LbtsView
view_after_look r word p =
    let v = p.client in
    let n = p.own.federates in
    if is_under_way v && shows_next (next_source v.scheme n p.own.number (length v.taken)) (length v.contributions) r word
    then view_after_close n p.own.number (record v { taken = v.taken ++ (share_of word).0 ∷ [] }) else v

-- a register was published: the clock, the own share, or a value on the way
abbrev pub view_after_publish : Reg → ℕ → Place LbtsView → LbtsView
view_after_publish r word p =
    if r.slot == 12 then view_after_grant p.own.number word p.client
    else if r.slot % 6 == share_stage then view_after_contribution (record p { client = view_when_ready p.own.number p.client })
    else if r.slot % 6 == 0 then view_after_close p.own.federates p.own.number p.client
    else p.client

abbrev pub view_after : Deed → Place LbtsView → LbtsView
view_after (Looked r word) p = view_after_look r word p
view_after (Published r word) p = view_after_publish r word p
view_after (Charged k mask) p = with_letter k p.client
view_after (PostedTo k j) p = with_post k j (buffer_of p.own.stock k).to_post p.client
view_after (Collected i word mail) p = view_after_collect p.own.buffers i word mail (view_when_ready p.own.number p.client)
view_after (ReadPart i k zero word) p = with_head i k word p.client
view_after (ReadPart i k (suc _) word) p = received_whole i k word p.client
view_after (Released i k) p = put_down i k p.client
view_after _ p = p.client
