-- The number of each message, which is its place in the catalogue, and its text.
-- Assumes nothing.
use Rattle.std.specs.Prelude.{List, ℕ}
use Rattle.catalogue.specs.declared.message.Message.{Message}
use Rattle.catalogue.specs.declared.message.Message.TheVariants.{RefusedLine, RuleNumber, LineAndWord, Missing, Separator, Whole, CarriageReturn, Tab, OrderMark, WideSpace, Bracket, Capital, Named, WatchedOnly, EnforcedOnly, Unknown, Misplaced, RuleBegins, WatchedComes, EnforcedComes, FormulaComes, NumberComes, NothingComes, WrongLength, WrongCounts, WrongAreas, UnknownKind, WrongField, WrongType, LongBound, NodeValues, NodeRows, WatchedSheet, NamedWord, WrongAction, DoubledAction, ActionForm, NameForm, NoActions, ManyActions, ManyRules, WatchedJoined, WatchedAsked, LongRule, LongFile, ManyNodes, ManyValues, ManyRows, JoinedValues, JoinedRows, InFile, WrongListed, ListedNumbers, ListedNames, LongList, NoneDenied, DeniedAt, ActionNumber, ActionName, DeniedWord, Denier, DenierEnd, OfRule, AtWord, Part, LineEnd, DeniesNothing, DeniesAll, NeverReported, ReportedAtOnce, NoActionHas, NoSuchWord, NoSuchFile, OtherActions, JoinedSheet, OneFile, SomeFiles, SomeFile, Help}
use Rattle.catalogue.specs.Catalogue.{message_of}

abbrev pub number_of : Message → ℕ
number_of RefusedLine = 0
number_of RuleNumber = 1
number_of LineAndWord = 2
number_of Missing = 3
number_of Separator = 4
number_of Whole = 5
number_of CarriageReturn = 6
number_of Tab = 7
number_of OrderMark = 8
number_of WideSpace = 9
number_of Bracket = 10
number_of Capital = 11
number_of Named = 12
number_of WatchedOnly = 13
number_of EnforcedOnly = 14
number_of Unknown = 15
number_of Misplaced = 16
number_of RuleBegins = 17
number_of WatchedComes = 18
number_of EnforcedComes = 19
number_of FormulaComes = 20
number_of NumberComes = 21
number_of NothingComes = 22
number_of WrongLength = 23
number_of WrongCounts = 24
number_of WrongAreas = 25
number_of UnknownKind = 26
number_of WrongField = 27
number_of WrongType = 28
number_of LongBound = 29
number_of NodeValues = 30
number_of NodeRows = 31
number_of WatchedSheet = 32
number_of NamedWord = 33
number_of WrongAction = 34
number_of DoubledAction = 35
number_of ActionForm = 36
number_of NameForm = 37
number_of NoActions = 38
number_of ManyActions = 39
number_of ManyRules = 40
number_of WatchedJoined = 41
number_of WatchedAsked = 42
number_of LongRule = 43
number_of LongFile = 44
number_of ManyNodes = 45
number_of ManyValues = 46
number_of ManyRows = 47
number_of JoinedValues = 48
number_of JoinedRows = 49
number_of InFile = 50
number_of WrongListed = 51
number_of ListedNumbers = 52
number_of ListedNames = 53
number_of LongList = 54
number_of NoneDenied = 55
number_of DeniedAt = 56
number_of ActionNumber = 57
number_of ActionName = 58
number_of DeniedWord = 59
number_of Denier = 60
number_of DenierEnd = 61
number_of OfRule = 62
number_of AtWord = 63
number_of Part = 64
number_of LineEnd = 65
number_of DeniesNothing = 66
number_of DeniesAll = 67
number_of NeverReported = 68
number_of ReportedAtOnce = 69
number_of NoActionHas = 70
number_of NoSuchWord = 71
number_of NoSuchFile = 72
number_of OtherActions = 73
number_of JoinedSheet = 74
number_of OneFile = 75
number_of SomeFiles = 76
number_of SomeFile = 77
number_of Help = 78

abbrev pub text_of : Message → List ℕ
text_of message = message_of (number_of message)
