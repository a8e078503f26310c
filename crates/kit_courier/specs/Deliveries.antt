-- The view at first, and what each step does to it.
use Rattle.std.specs.Prelude.{ℕ, zero, suc, ◌==◌, ◌&&◌, if◌then◌else◌, List, [], ◌∷◌, ◌++◌, replicate, slice_set, Option, Some, None}
use Rattle.kit_ground.specs.declared.address.Reg.{Reg}
use Rattle.kit_ground.specs.declared.place.Buffer.{Buffer}
use Rattle.kit_ground.specs.declared.place.Deed.{Deed}
use Rattle.kit_ground.specs.declared.place.Deed.TheVariants.{Looked, Charged, ReadPart, Released}
use Rattle.kit_ground.specs.declared.place.Place.{Place}
use Rattle.kit_ground.specs.Steps.{buffer_of}
use Rattle.kit_courier.specs.declared.view.CourierView.{CourierView}
use Rattle.kit_courier.specs.declared.view.Letter.{Letter}
use Rattle.kit_courier.specs.declared.view.Reading.{Reading}
use Rattle.kit_courier.specs.declared.view.Receipt.{Receipt}

-- of a federate among so many, who has sent and got nothing
abbrev pub newcomer : ℕ → CourierView
newcomer federates = record { known = replicate federates 0; sent = []; reading = None; got = [] }

-- the opening is the number of federates
abbrev pub courier_first : ℕ → ℕ → CourierView
courier_first federates k = newcomer federates

-- the letter that the owner last wrote in a buffer
abbrev pub letter_of : Buffer → Letter
letter_of c = record { head = c.head; body = c.body }

-- a clock was looked at
abbrev pub known_after : Reg → ℕ → List ℕ → List ℕ
known_after r word known = if r.slot == 12 then slice_set known r.owner word else known

-- the body was read, so the letter is whole
abbrev pub got_after : Option Reading → ℕ → List Receipt → List Receipt
got_after None body got = got
got_after (Some r) body got = got ++ record { from = r.from; letter = record { head = r.head; body = body } } ∷ []

-- a buffer that was being read is released
abbrev pub reading_after : ℕ → ℕ → Option Reading → Option Reading
reading_after i k None = None
reading_after i k (Some r) = if r.from == i && r.buffer == k then None else Some r

abbrev pub view_after : Deed → Place CourierView → CourierView
view_after (Looked r word) p = record p.client { known = known_after r word p.client.known }
view_after (Charged k mask) p = record p.client { sent = p.client.sent ++ record { to = mask; letter = letter_of (buffer_of p.own.stock k) } ∷ [] }
view_after (ReadPart i k zero word) p = record p.client { reading = Some (record { from = i; buffer = k; head = word }) }
view_after (ReadPart i k (suc _) word) p = record p.client { reading = None; got = got_after p.client.reading word p.client.got }
view_after (Released i k) p = record p.client { reading = reading_after i k p.client.reading }
view_after _ p = p.client
