-- What a crash leaves of a disk in memory.
use Rattle.std.specs.Prelude.{ℕ, ◌+◌, ◌-◌, leb, ltb, Bool, List, [], ◌∷◌, None, Some, Option, true, false, ◌&&◌, ◌||◌, if◌then◌else◌}
use Rattle.craft_edge.specs.DiskCalls.{StopOrder}
use Rattle.craft_edge.specs.DiskModel.{DiskState, Range}

-- the offset lies in one of the ranges
abbrev pub is_in : List Range → ℕ → Bool
is_in [] offset = false
is_in (range ∷ ranges) offset = (leb range.at offset && ltb offset (range.at + range.len)) || is_in ranges offset

-- these bytes, which begin at an offset, with the complement in the place of each one whose offset passes the test
abbrev pub spoiled_where : (ℕ → Bool) → ℕ → List ℕ → List ℕ
spoiled_where test offset [] = []
spoiled_where test offset (byte ∷ bytes) = (if test offset then 255 - byte else byte) ∷ spoiled_where test (offset + 1) bytes

-- whether the last stop told keeps what is pending; with no stop it is kept
abbrev pub keeps : Option StopOrder → Bool
keeps None = true
keeps (Some stop) = stop.keep

-- the image: what a read gives, with each pending byte as it was written or as its complement
abbrev pub crash_image : Option StopOrder → DiskState → List ℕ
crash_image stop disk = if keeps stop then disk.bytes else spoiled_where (is_in disk.pending) 0 disk.bytes
