-- The number of each refusal, and its name.
use Rattle.std.specs.Prelude.{ℕ, List, codes}
use Rattle.nt_status.specs.declared.refusal.Refusal.{Refusal}
use Rattle.nt_status.specs.declared.refusal.Refusal.TheVariants.{AccessDenied, InvalidHandle, Memory, ThreadGone, InvalidParameter, NotOwner, TooManyPosts, ThreadWaiting, ThreadEnded, UnknownThread, RecursionLimit, MomentBack, JournalFull, HandleLimit}

abbrev pub number_of : Refusal → ℕ
number_of AccessDenied = 5
number_of InvalidHandle = 6
number_of Memory = 8
number_of ThreadGone = 31
number_of InvalidParameter = 87
number_of NotOwner = 288
number_of TooManyPosts = 298
number_of ThreadWaiting = 0x20000001
number_of ThreadEnded = 0x20000002
number_of UnknownThread = 0x20000003
number_of RecursionLimit = 0x20000004
number_of MomentBack = 0x20000005
number_of JournalFull = 0x20000006
number_of HandleLimit = 0x20000007

-- the name as text
abbrev pub name_of : Refusal → List ℕ
name_of AccessDenied = codes "ERROR_ACCESS_DENIED"
name_of InvalidHandle = codes "ERROR_INVALID_HANDLE"
name_of Memory = codes "ERROR_NOT_ENOUGH_MEMORY"
name_of ThreadGone = codes "ERROR_GEN_FAILURE"
name_of InvalidParameter = codes "ERROR_INVALID_PARAMETER"
name_of NotOwner = codes "ERROR_NOT_OWNER"
name_of TooManyPosts = codes "ERROR_TOO_MANY_POSTS"
name_of ThreadWaiting = codes "NT_ERROR_THREAD_WAITING"
name_of ThreadEnded = codes "NT_ERROR_THREAD_ENDED"
name_of UnknownThread = codes "NT_ERROR_UNKNOWN_THREAD"
name_of RecursionLimit = codes "NT_ERROR_RECURSION_LIMIT"
name_of MomentBack = codes "NT_ERROR_MOMENT_BACK"
name_of JournalFull = codes "NT_ERROR_JOURNAL_FULL"
name_of HandleLimit = codes "NT_ERROR_HANDLE_LIMIT"
