-- The JSON value of a cut, as the key cut beside its federation.
use Rattle.std.specs.Prelude.{ℕ, List, [], ◌∷◌, length, take, option_map, codes}
use Rattle.std.specs.List.{zip}
use Rattle.serde_json.specs.Data.{Data, object, no_members, member}
use Rattle.kit_base.specs.declared.message.Message.{Message}
use Rattle.kit_rules.specs.declared.table.Request.{Request}
use Rattle.kit_rules.specs.declared.table.Request.TheVariants as request
use Rattle.kit_rules.specs.declared.table.Federate.{Federate}
use Rattle.kit_rules.specs.declared.own.Own.{Own}
use Rattle.kit_rules.specs.Parts.{Parts}
use Rattle.kit_cut.specs.declared.cut.Standing.{Standing}
use Rattle.kit_cut.specs.declared.cut.Cut.{Cut}
use Rattle.kit_save.specs.Values.{count, list_value, written_if, wish_value, federate_value, group_value}

-- numbers, as a list
abbrev pub numbers_value : List ℕ → Data
numbers_value ns = list_value count ns

-- an Event that may still be taken back: number, time, group
abbrev pub own_row : Own → List ℕ
own_row o = o.number ∷ o.time ∷ o.group ∷ []

-- an Event that is pending: time, sender, number, group, value
abbrev pub message_row : Message → List ℕ
message_row m = m.time ∷ m.sender ∷ m.number ∷ m.group ∷ m.value ∷ []

abbrev pub own_value : Own → Data
own_value o = numbers_value (own_row o)

abbrev pub message_value : Message → Data
message_value m = numbers_value (message_row m)

-- a request, with its time
abbrev pub request_value : Request → Data
request_value (request.Tar time) = object (member (codes "tar") (count time) no_members)
request_value (request.Ner time) = object (member (codes "ner") (count time) no_members)

-- what a cut keeps of a federate; its request where it has one
abbrev pub standing_value : Federate → Standing → Data
standing_value f s =
    object (member (codes "now") (count s.now)
    (member (codes "own") (list_value own_value s.own)
    (member (codes "pending") (list_value message_value s.pending)
    (written_if (codes "request") (option_map request_value s.request)
    (member (codes "vars") (numbers_value (take (length f.vars) s.vars))
    (member (codes "wish") (wish_value s.wish) no_members))))))

-- of a federate with what a cut keeps of it
abbrev pub paired_value : Federate × Standing → Data
paired_value x = standing_value x.0 x.1

-- a cut
abbrev pub cut_value : Parts → Cut → Data
cut_value p c =
    object (member (codes "at") (count c.at)
    (member (codes "federates") (list_value paired_value (zip p.federates c.federates))
    (member (codes "next") (numbers_value c.next) no_members)))

-- a federation with a cut: the whole saved file
abbrev pub saved_value : Parts → Cut → Data
saved_value p c =
    object (member (codes "buffers") (count p.buffers)
    (member (codes "cut") (cut_value p c)
    (member (codes "end") (count p.end)
    (member (codes "federates") (list_value (federate_value p.groups) p.federates)
    (member (codes "groups") (list_value (group_value p.federates) p.groups)
    (member (codes "version") (count 2) no_members))))))
