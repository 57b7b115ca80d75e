-- What an error of the database means for the file.
use Rattle.std.specs.Prelude.{◌≡◌, ◌⊎◌}
use Rattle.sqlite.specs.declared.error.Error.{Error}
use Rattle.sqlite.specs.declared.error.Error.TheVariants.{SqliteFailure, SqlInputError}
use Rattle.sqlite.specs.declared.error.ErrorCode.{ErrorCode}
use Rattle.sqlite.specs.declared.error.ErrorCode.TheVariants as code
use Rattle.sqlite_resolve.specs.declared.error.CompileError.{CompileError}
use Rattle.sqlite_resolve.specs.declared.error.CompileError.TheVariants as compiling
use Rattle.kept_file.specs.declared.fault.KeepFault.{KeepFault}
use Rattle.kept_file.specs.declared.fault.KeepFault.TheVariants.{Busy, Damaged, Full, NoMemory, Unwritable}

-- a request for memory was refused to the database
abbrev pub IsRefused : Error → Type 0
IsRefused error = (error ≡ SqliteFailure code.OutOfMemory) ⊎ (error ≡ SqlInputError compiling.OutOfMemory)

-- what a failure means that came as the file was written
abbrev pub failure_of : ErrorCode → KeepFault
failure_of code.OutOfMemory = NoMemory
failure_of code.DatabaseBusy = Busy
failure_of code.DiskFull = Full
failure_of code.NotADatabase = Damaged
failure_of code.DatabaseCorrupt = Damaged
failure_of (code.ConstraintViolation rule) = Damaged
failure_of _ = Unwritable

-- .. and what an error of a text means
abbrev pub refusal_of : CompileError → KeepFault
refusal_of compiling.OutOfMemory = NoMemory
refusal_of _ = Damaged

-- what an error means that came as the file was written
abbrev pub fault_of : Error → KeepFault
fault_of (SqliteFailure failure) = failure_of failure
fault_of (SqlInputError refusal) = refusal_of refusal
fault_of _ = Damaged
