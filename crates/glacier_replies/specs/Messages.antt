-- What is told of each refusal: its message.
use Rattle.std.specs.Prelude.{ℕ, List, ◌++◌, codes, decimal, IsAscii, ⊤}
use Rattle.hex.specs.Hex.{encode_lower}
use Rattle.glacier_base.specs.Dates.{basic_of}
use Rattle.glacier_base.specs.Ids.{id_text}
use Rattle.glacier_base.specs.declared.id.IdKind.{IdKind}
use Rattle.glacier_base.specs.declared.id.IdKind.TheVariants as ids
use Rattle.glacier_policy.specs.declared.policy.PolicyFault.{PolicyFault}
use Rattle.glacier_policy.specs.declared.policy.PolicyFault.TheVariants as fault
use Rattle.glacier_vault.specs.declared.refusal.Refusal.{Refusal}
use Rattle.glacier_vault.specs.declared.refusal.Refusal.TheVariants as refusal

-- the id of a kind with this number
abbrev pub name_of : IdKind → ℕ → List ℕ
name_of kind number = id_text (record { kind = kind; number = number })

-- the name of a policy's fault
abbrev pub fault_name : PolicyFault → List ℕ
fault_name (fault.TooLong length) = codes "TooLong"
fault_name fault.NotJson = codes "NotJson"
fault_name fault.NotAPolicy = codes "NotAPolicy"
fault_name fault.UnknownOperator = codes "UnknownOperator"
fault_name fault.UnknownKey = codes "UnknownKey"
fault_name fault.BadNumber = codes "BadNumber"
fault_name fault.Memory = codes "Memory"

-- its message
abbrev pub message_of : Refusal → List ℕ
message_of refusal.HeadSyntax = codes "The request head is not valid."
message_of refusal.HeadTooLong = codes "The request head is too long."
message_of refusal.HeadTooMany = codes "The request head has too many fields."
message_of refusal.HeadLength = codes "The Content-Length is not valid."
message_of refusal.HeadCoding = codes "Transfer-Encoding is not accepted."
message_of refusal.HeadPath = codes "The path is not valid."
message_of (refusal.HashNeeded length) =
    codes "x-amz-content-sha256 is needed for " ++ decimal length ++ codes " bytes."
message_of refusal.Missing = codes "Authorization or x-amz-date is missing."
message_of refusal.Malformed = codes "Authorization or x-amz-date is not valid."
message_of refusal.UnknownKey = codes "The access key is not known."
message_of refusal.WrongScope = codes "The credential scope does not fit."
message_of (refusal.Unsigned header) = codes "Not signed: " ++ header
message_of (refusal.Skewed theirs ours) =
    codes "The date " ++ basic_of theirs ++ codes " is too far from " ++ basic_of ours ++ codes "."
message_of refusal.BadSignature = codes "The signature does not match."
message_of refusal.NoRoute = codes "No such operation."
message_of refusal.OtherAccount = codes "The account is not the signer's."
message_of refusal.Token = codes "x-amz-security-token is not accepted."
message_of refusal.NoVersion = codes "x-amz-glacier-version is missing."
message_of refusal.BadVersion = codes "x-amz-glacier-version is not 2012-06-01."
message_of (refusal.BodyTooLong length) = codes "The body has " ++ decimal length ++ codes " bytes."
message_of (refusal.MissingHeader name) = codes "Missing header: " ++ name
message_of (refusal.BadHeader name) = codes "Bad header: " ++ name
message_of (refusal.ContentMismatch found said) =
    codes "Content hash is " ++ encode_lower found ++ codes ", not " ++ encode_lower said ++ codes "."
message_of refusal.BadName = codes "The vault name is not valid."
message_of refusal.BadId = codes "The id is not valid."
message_of (refusal.BadQuery name) = codes "Bad query: " ++ name
message_of refusal.NotJson = codes "The body is not a JSON object."
message_of (refusal.MissingMember name) = codes "Missing member: " ++ name
message_of (refusal.BadMember name) = codes "Bad member: " ++ name
message_of (refusal.NotOffered name) = codes "Not offered: " ++ name
message_of refusal.BadType = codes "The job type is not valid."
message_of (refusal.BadPolicy fault) = codes "Bad policy: " ++ fault_name fault
message_of (refusal.NoVault name) = codes "Vault not found: " ++ name
message_of refusal.VaultLimit = codes "The account has 1000 vaults."
message_of refusal.VaultNotEmpty = codes "The vault has an archive or an open upload."
message_of refusal.VaultLocked = codes "The vault is locked."
message_of refusal.Empty = codes "The archive is empty."
message_of (refusal.TooLarge size most) =
    codes "The archive has " ++ decimal size ++ codes " bytes, more than " ++ decimal most ++ codes "."
message_of (refusal.NoRoom used need quota) =
    codes "Used " ++ decimal used ++ codes ", needed " ++ decimal need ++ codes ", quota " ++ decimal quota ++ codes "."
message_of (refusal.TreeMismatch found said) =
    codes "Tree hash is " ++ encode_lower found ++ codes ", not " ++ encode_lower said ++ codes "."
message_of refusal.BadPartSize = codes "The part size is not valid."
message_of (refusal.NoUpload upload) = codes "Upload not found: " ++ name_of ids.Upload upload
message_of refusal.BadRange = codes "The Content-Range is not valid."
message_of (refusal.PartTooMany index) = codes "Part " ++ decimal index ++ codes " is above 9999."
message_of (refusal.Gap at) = codes "No part covers byte " ++ decimal at ++ codes "."
message_of (refusal.SizeDiffers covered named) =
    codes "The parts cover " ++ decimal covered ++ codes " bytes, not " ++ decimal named ++ codes "."
message_of refusal.UploadLimit = codes "The account has 1000 open uploads."
message_of (refusal.NoArchive archive) = codes "Archive not found: " ++ name_of ids.Archive archive
message_of (refusal.NoJob job) = codes "Job not found: " ++ name_of ids.Job job
message_of refusal.BadJobRange = codes "The retrieval range is not valid."
message_of (refusal.NotReady ready) = codes "The job is ready at " ++ basic_of ready ++ codes "."
message_of refusal.JobFailed = codes "The job failed."
message_of (refusal.BadByteRange length) = codes "The Range is not valid for " ++ decimal length ++ codes " bytes."
message_of refusal.JobLimit = codes "The account has 10000 jobs."
message_of refusal.LockPending = codes "A lock is in progress."
message_of refusal.LockFixed = codes "The vault is locked."
message_of refusal.NoLock = codes "The vault has no lock."
message_of refusal.WrongLockId = codes "The lock id is not this lock's."
message_of (refusal.Denied age) = codes "The lock policy denies deletion at " ++ decimal age ++ codes " days."
message_of refusal.CounterEnd = codes "The account's ids are used up."

-- a text that is kept in the refusal is ASCII
abbrev pub HasAsciiText : Refusal → Type 0
HasAsciiText (refusal.Unsigned header) = IsAscii header
HasAsciiText (refusal.MissingHeader name) = IsAscii name
HasAsciiText (refusal.BadHeader name) = IsAscii name
HasAsciiText (refusal.BadQuery name) = IsAscii name
HasAsciiText (refusal.MissingMember name) = IsAscii name
HasAsciiText (refusal.BadMember name) = IsAscii name
HasAsciiText (refusal.NotOffered name) = IsAscii name
HasAsciiText _ = ⊤
