-- The limits of document 01, each named once; src/limits.rt has the fixed numbers under the same names for the code. Assumes nothing.
use Rattle.std.specs.Prelude.{ℕ, ◌+◌, ◌*◌}

-- the longest sample, the bytes that a place keeps, and the least output
abbrev pub sample_most : ℕ
sample_most = 1024

-- the longest description, and a record: index, zero and length, four bytes, and then the description
abbrev pub description_most : ℕ
description_most = 256

abbrev pub record_head : ℕ
record_head = 4

abbrev pub record_size : ℕ
record_size = record_head + description_most

abbrev pub parts_most : ℕ
parts_most = 15

-- finished times kept for each desk
abbrev pub finished_most : ℕ
finished_most = 16

-- in-band values: how many there are, and how many of them a desk's window holds
abbrev pub in_band : ℕ
in_band = 128

abbrev pub window : ℕ
window = 64

-- the reserved index
abbrev pub reserved : ℕ
reserved = 255

abbrev pub desks_most : ℕ
desks_most = 8

-- open samples: a desk's own places, its share of the common ones, and the most that it may have
abbrev pub own_places : ℕ
own_places = 2

abbrev pub common_each : ℕ
common_each = 2

abbrev pub open_most : ℕ
open_most = 6

-- what each desk needs of the lent memory: places; finished times (`finished_most`); marks (how many finished times are in use; the
-- newest in-band value, where `in_band` is none); and its store, a record for each value of the window
abbrev pub places_each : ℕ
places_each = own_places + common_each

abbrev pub marks_each : ℕ
marks_each = 2

abbrev pub store_size : ℕ
store_size = window * record_size

-- the head of the marks, before those of the desks: what the relay knows of itself. How many desks there are; the common use; and for each
-- of eight desks how many samples it has open
abbrev pub desks_at : ℕ
desks_at = 0

abbrev pub common_at : ℕ
common_at = 1

abbrev pub opens_at : ℕ
opens_at = 2

abbrev pub head_size : ℕ
head_size = opens_at + desks_most

-- the largest number that a mark holds
abbrev pub mark_most : ℕ
mark_most = 4294967295

-- what n desks need: 4n places, of which 2n are common; rows of finished times; marks; stores
abbrev pub places : ℕ → ℕ
places n = places_each * n

abbrev pub common : ℕ → ℕ
common n = common_each * n

abbrev pub rows_need : ℕ → ℕ
rows_need n = finished_most * n

abbrev pub marks_need : ℕ → ℕ
marks_need n = head_size + marks_each * n

abbrev pub stores_need : ℕ → ℕ
stores_need n = store_size * n

-- what eight desks need
abbrev pub places_most : ℕ
places_most = places desks_most

abbrev pub rows_most : ℕ
rows_most = rows_need desks_most

abbrev pub marks_most : ℕ
marks_most = marks_need desks_most

abbrev pub stores_most : ℕ
stores_most = stores_need desks_most

-- the writer's size limit, and the first SDUR that does not fit 24 bits
abbrev pub size_least : ℕ
size_least = 14

abbrev pub size_most : ℕ
size_most = 1400

abbrev pub durations : ℕ
durations = 16777216
