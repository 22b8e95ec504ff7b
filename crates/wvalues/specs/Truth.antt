-- The three truths, and what AND, OR and NOT make of them (ISO/IEC 9075-2, <boolean value expression>).
use Rattle.wvalues.specs.declared.truth.Truth.{Truth}
use Rattle.wvalues.specs.declared.truth.Truth.TheVariants.{Yes, No, Unknown}

-- no where one is no, else unknown where one is unknown
abbrev pub both : Truth → Truth → Truth
both No _ = No
both _ No = No
both Unknown _ = Unknown
both _ Unknown = Unknown
both Yes Yes = Yes

-- yes where one is yes, else unknown where one is unknown
abbrev pub either : Truth → Truth → Truth
either Yes _ = Yes
either _ Yes = Yes
either Unknown _ = Unknown
either _ Unknown = Unknown
either No No = No

-- unknown stays unknown
abbrev pub opposite : Truth → Truth
opposite Yes = No
opposite No = Yes
opposite Unknown = Unknown
