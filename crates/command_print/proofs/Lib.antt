mod KnownTexts
