-- The counts of faults of sources and sinks.
use Rattle.std.specs.Prelude.{◌≡◌, ℕ, ◌+◌, ◌-◌, ◌^◌, ◌<◌, ◌⊎◌, min}
use Rattle.jl_io.specs.declared.reading.ReadFault.{ReadFault}
use Rattle.jl_io.specs.declared.reading.ReadFault.TheVariants.{Failed, Memory}
use Rattle.jl_io.specs.declared.writing.SinkFault.{SinkFault}
use Rattle.jl_io.specs.declared.writing.SinkFault.TheVariants.{Failed as SinkFailed, Memory as SinkMemory}

-- a count of faults rose; one that stands at the last value of a u64 counts as risen
abbrev pub Rose : (old new : ℕ) → Type 0
Rose old new = (old < new) ⊎ (new ≡ 2 ^ 64 - 1)

-- one more, up to the last value of a u64
abbrev pub raised : ℕ → ℕ
raised count = min (count + 1) (2 ^ 64 - 1)

-- a read that failed has its cause: the device's fault raised the count, and out of memory left it as it was
abbrev pub IsReadCause : ReadFault → (old new : ℕ) → Type 0
IsReadCause Failed old new = Rose old new
IsReadCause Memory old new = new ≡ old

-- a write that failed has its cause: the device's fault raised the count, and out of memory left it as it was
abbrev pub IsWriteCause : SinkFault → (old new : ℕ) → Type 0
IsWriteCause SinkFailed old new = Rose old new
IsWriteCause SinkMemory old new = new ≡ old
